use Rattle.std.proofs.Common.{◌≡◌, ◌+◌, ◌==◌, ℕ, List, [], ◌∷◌, ◌++◌, length, take, position, Some, None, false, sym}
use Rattle.std.proofs.Common.{ap, subst, ◌∙◌, length-drop, arith}
use Rattle.std.proofs.lemmas.List.{drop_all}
use Rattle.fp_edit.specs.Line.{line_of}
use Rattle.fp_session.specs.Asks.{Ask}
use Rattle.fp_session.specs.Lines.{line_up_to_limit}
use Rattle.fp_session.specs.Sources.{AskLines}
use Rattle.fp_session.proofs.LineLemmas.{cut-same, newline_found, newline_none}
use Rattle.fp_session.proofs.Readings.{lines-blank, lines-more, lines-one, lines_at}
use Rattle.fp_session.proofs.input.next_line.Goals as goal

pub loop-at-preserved : goal.loop-at-preserved
loop-at-preserved c =
    let chunk = c.loop-at.chunk in let at = c.in-Some.at in
    let found = newline_found chunk
    at (subst (λ (bs : List ℕ). position (λ b. b == 10) bs ≡ Some at) c.as_slice.ensures
    (sym c.newline_in.ensures.first ∙ c.in-Some.is)) in record {
      asks = λ reads all a.
          let now = c.loop-at.invariant.asks reads all a in
          let held = subst (λ (bs : List ℕ). c.extend.new.self ≡ line_up_to_limit (now.line ++ take at bs))
          c.as_slice-in-Some.ensures (c.in_ok-extend.ensures.grown now.line now.held) in
          subst (λ (bs : List ℕ). AskLines (lines_at false c.end.new.self bs) reads all) (sym c.skip.ensures)
          (lines-blank reads false c.loop-at.line chunk all now at found c.end.new.self c.end.ensures.ended
          (c.in_default-end.ensures.asks (now.line ++ take at chunk) held));
      fewer = let gone = ap length c.skip.ensures in let less = length-drop (at + 1) chunk in
          let was = c.loop-at.invariant.fewer in omega (arith, gone, less, was);
    }

pub returns-in-Some-end-clause-next : goal.returns-in-Some-end-clause-next
returns-in-Some-end-clause-next c =
    let chunk = c.loop-at.chunk in let at = c.in-Some.at in let k = c.extend.new.self in
    let found = newline_found chunk
    at (subst (λ (bs : List ℕ). position (λ b. b == 10) bs ≡ Some at) c.as_slice.ensures
    (sym c.newline_in.ensures.first ∙ c.in-Some.is)) in
    let asks = c.in-Some-end.ensures.asks k (sym c.in-Some-end.ensures.limited) in (
      line_of k,
      asks.1,
      λ reads all a.
          let now = c.loop-at.invariant.asks reads all a in let line = now.line ++ take at chunk in
          let held = subst (λ (bs : List ℕ). k ≡ line_up_to_limit (now.line ++ take at bs))
          c.as_slice-in-Some.ensures (c.in_ok-extend.ensures.grown now.line now.held) in
          let one = lines-one reads false c.loop-at.line chunk all now at found c.end.new.self c.end.ensures.ended
          (c.in-Some-end.ensures.asks line held).0 in
          let same : line_of k ≡ line_of line = ap line_of held ∙ (cut-same line).1 in (
            one.0,
            ap (λ (x : Ask). x ∷ one.0) same ∙ one.1,
            subst (λ (bs : List ℕ). AskLines (lines_at false c.end.new.self bs) reads one.0) (sym c.skip.ensures) one.2,
          ),
    )

pub returns-clause-next : goal.returns-clause-next
returns-clause-next c = λ reads all a.
    let chunk = c.loop-at.chunk in let now = c.loop-at.invariant.asks reads all a in
    let none = newline_none chunk (subst (λ (bs : List ℕ). position (λ b. b == 10) bs ≡ None) c.as_slice.ensures
    (sym c.newline_in.ensures.first ∙ c.in_default.is)) in
    let held = subst (λ (bs : List ℕ). c.extend-2.new.self ≡ line_up_to_limit (now.line ++ bs)) c.as_slice-2.ensures
    (c.in_ok-extend-2.ensures.grown now.line now.held) in
    let whole = ap length (sym c.as_slice-3.ensures) in
    let gone : c.skip-2.new.self ≡ [] = c.skip-2.ensures ∙ drop_all _ chunk (omega (arith, whole)) in
    subst (λ (bs : List ℕ). AskLines (lines_at false c.extend-2.new.self bs) reads all) (sym gone)
    (lines-more reads false c.loop-at.line chunk all now c.extend-2.new.self none held)
