use Rattle.std.proofs.Common.{◌≡◌, ◌++◌, ◌==◌, ℕ, List, take, position, Some, None, sym, subst, ◌∙◌}
use Rattle.fp_session.specs.Lines.{line_up_to_limit}
use Rattle.fp_session.specs.Requests.{is_left}
use Rattle.fp_session.proofs.FirstLines.{first-asks, first-more, first-told, last-asks}
use Rattle.fp_session.proofs.LineLemmas.{newline_found, newline_none}
use Rattle.fp_session.proofs.input.read_first.Goals as goal

pub returns-then-not-is_more-clause-asks : goal.returns-then-not-is_more-clause-asks
returns-then-not-is_more-clause-asks g c =
    let first = g.R.Read.remaining c.args.reader.now.inner in
    let now = g.R.Read.remaining c.loop-is_more.reader.inner in
    let then = g.R.Read.remaining c.fill.new.r.inner in
    let e = c.in_ok-is_more.ensures.end c.if-not-is_more.true in
    last-asks first now then c.loop-is_more.line c.loop-is_more.request c.loop-is_more.invariant.way c.fill.new.self
    c.in_ok-is_more.ensures.bytes e.0 e.1

pub returns-in-Some-clause-told : goal.returns-in-Some-clause-told
returns-in-Some-clause-told g c =
    let first = g.R.Read.remaining c.args.reader.now.inner in
    let now = g.R.Read.remaining c.loop-is_more.reader.inner in
    let then = g.R.Read.remaining c.fill.new.r.inner in
    let bytes = c.fill.new.self in let at = c.in-Some.at in let before = c.loop-is_more.request in let whole = c.followed-whole.result in
    let found = newline_found bytes
    at (subst (λ (bs : List ℕ). position (λ b. b == 10) bs ≡ Some at) c.as_slice.ensures
    (sym c.newline_in.ensures.first ∙ c.in-Some.is)) in
    first-told first now then c.loop-is_more.line before c.loop-is_more.invariant.way bytes
    c.in_ok-is_more.ensures.bytes at found whole c.is_whole-in-Some.result
    (subst (λ (bs : List ℕ). (rest : List ℕ) → is_left whole rest ≡ is_left before (take at bs ++ rest))
    c.as_slice-in-Some.ensures c.followed-whole.ensures) c.is_whole-in-Some.ensures

pub returns-in-Some-clause-asks : goal.returns-in-Some-clause-asks
returns-in-Some-clause-asks g c =
    let first = g.R.Read.remaining c.args.reader.now.inner in
    let now = g.R.Read.remaining c.loop-is_more.reader.inner in
    let then = g.R.Read.remaining c.fill.new.r.inner in
    let bytes = c.fill.new.self in let at = c.in-Some.at in
    let found = newline_found bytes
    at (subst (λ (bs : List ℕ). position (λ b. b == 10) bs ≡ Some at) c.as_slice.ensures
    (sym c.newline_in.ensures.first ∙ c.in-Some.is)) in
    first-asks first now then c.loop-is_more.line c.loop-is_more.request c.loop-is_more.invariant.way bytes
    c.in_ok-is_more.ensures.bytes at found

pub loop-is_more-preserved : goal.loop-is_more-preserved
loop-is_more-preserved g c =
    let first = g.R.Read.remaining c.args.reader.now.inner in
    let now = g.R.Read.remaining c.loop-is_more.reader.inner in
    let then = g.R.Read.remaining c.fill.new.r.inner in
    let bytes = c.fill.new.self in let before = c.loop-is_more.request in let more = c.followed-request.result in
    let k = c.extend.new.self in
    let none = newline_none bytes (subst (λ (bs : List ℕ). position (λ b. b == 10) bs ≡ None) c.as_slice.ensures
    (sym c.newline_in.ensures.first ∙ c.in_default.is)) in record {
      read_well = c.in_ok-is_more.ensures.counted ∙ c.loop-is_more.invariant.read_well;
      way = first-more first now then c.loop-is_more.line before c.loop-is_more.invariant.way bytes
          c.in_ok-is_more.ensures.bytes k more none
          (λ l held. subst (λ (bs : List ℕ). k ≡ line_up_to_limit (l ++ bs)) c.as_slice-in-loop-is_more-2.ensures
          (c.in-Ok.ensures.grown l held))
          (subst (λ (bs : List ℕ). (rest : List ℕ) → is_left more rest ≡ is_left before (bs ++ rest))
          c.as_slice-in-loop-is_more.ensures c.followed-request.ensures);
    }
