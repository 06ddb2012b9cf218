use Rattle.std.proofs.Common.{◌≡◌, ◌≢◌, ◌+◌, ◌-◌, ◌<◌, ◌∷◌, ◌++◌, get_or, length, set, take, refl}
use Rattle.std.proofs.Common.{ap, sym, ◌∙◌, arith}
use Rattle.std.proofs.Math.Seq.{take-add}
use Rattle.std.proofs.lemmas.List.{length-set}
use Rattle.json.specs.Print.{escape}
use Rattle.fp_canonical.proofs.Escaped.{escape-more}
use Rattle.fp_canonical.proofs.Exact.{spelled_on}
use Rattle.fp_canonical.proofs.Runs.{more_behind, next_behind, run_more}
use Rattle.fp_canonical.proofs.strings.unescaped.Goals as goal

pub loop-at-init : goal.loop-at-init
loop-at-init c = (omega arith, omega arith, refl, refl, λ s left is. (s, is))

pub returns-then-at-bytes-clause-taken : goal.returns-then-at-bytes-clause-taken
returns-then-at-bytes-clause-taken c = λ s left is.
    let run = c.put_run-run in
    let h = c.loop-at.invariant.4 s left is in
    absurd (omega (arith, c.if-at-bytes.true, more_behind c.args.bytes.now c.loop-at.at run.result run.ensures.run h.0 left h.1))

pub returns-then-bytes-at-eq34-clause-spelled : goal.returns-then-bytes-at-eq34-clause-spelled
returns-then-bytes-at-eq34-clause-spelled c =
    let l = c.loop-at in
    let run = c.put_run-run in
    run_more c.args.bytes.now l.room run.new.room l.at l.len run.result l.invariant.2 run.ensures.put run.ensures.written

pub returns-in_err-byte-clause-taken : goal.returns-in_err-byte-clause-taken
returns-in_err-byte-clause-taken c = λ s left is.
    let l = c.loop-at in
    let run = c.put_run-run in
    let bytes = c.args.bytes.now in
    let no_quote : get_or bytes (l.at + run.result) 0 ≢ 34 = λ q. omega (arith, q, c.if-bytes-at-eq34.false) in
    let h = l.invariant.4 s left is in
    let x = next_behind bytes l.at run.result run.ensures.run h.0 left no_quote h.1 in
    let taken = c.in_err-byte.ensures.taken x.0 (escape x.1 ++ 34 ∷ left) x.2 x.3 in absurd (cc)

pub loop-at-preserved : goal.loop-at-preserved
loop-at-preserved c =
    let l = c.loop-at in
    let run = c.put_run-run in
    let bytes = c.args.bytes.now in
    let room = run.new.room in
    let at = l.at + run.result in
    let len = l.len + run.result in
    let next = c.in_ok-byte.next in
    let within = c.in_ok-byte.ensures.within in
    let so_far = run_more bytes l.room room l.at l.len run.result l.invariant.2 run.ensures.put run.ensures.written in
    let fits : len < length room = omega (arith, l.invariant, c.if-at-bytes.false, run.ensures.within, run.ensures.same, c.requires) in
    let same : length (set room len c.in_ok-byte.byte) ≡ length room = length-set room len c.in_ok-byte.byte in
    let long : at + (next - at) ≡ next = omega (arith, within) in
    let no_quote : get_or bytes at 0 ≢ 34 = λ q. omega (arith, q, c.if-bytes-at-eq34.false) in (
      within.1,
      omega (arith, within, l.invariant.1),
      escape-more bytes room at next len c.in_ok-byte.byte (omega (arith, within)) fits so_far
          c.in_ok-byte.ensures.spelled (ap (λ n. take n bytes) (sym long) ∙ take-add at (next - at) bytes),
      same ∙ run.ensures.same ∙ l.invariant.3,
      λ s left is.
          let h = l.invariant.4 s left is in
          let x = next_behind bytes l.at run.result run.ensures.run h.0 left no_quote h.1 in (
            x.1,
            spelled_on bytes at next x.0 c.in_ok-byte.byte (escape x.1 ++ 34 ∷ left) (omega (arith, within)) x.2
                c.in_ok-byte.ensures.spelled,
          ),
    )
