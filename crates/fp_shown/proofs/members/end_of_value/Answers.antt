use Rattle.std.proofs.Common.{◌+◌, sym, ◌∙◌, arith}
use Rattle.json.specs.Print.{quoted}
use Rattle.fp_shown.proofs.Ends.{ends_at, ends_name, ends_value, passed_all, stops}
use Rattle.fp_shown.proofs.members.end_of_value.Goals as goal

pub returns-then-is_end-clause-name : goal.returns-then-is_end-clause-name
returns-then-is_end-clause-name c = λ key rest is.
    let text = c.args.text.now in
    let lt = c.loop-at-test.true in
    let here = stops c.loop-at.scan c.next-scan.result text c.loop-at.at lt c.next-scan.ensures
    (sym c.is_end.ensures ∙ c.if-is_end.true) in
    ends_at text (quoted key) rest (c.loop-at.at + 1) (omega (arith, lt)) is (sym here
    ∙ c.loop-at.invariant.0 ∙ ends_name text key rest is)

pub returns-then-is_end-clause-value : goal.returns-then-is_end-clause-value
returns-then-is_end-clause-value c = λ value rest h is.
    let text = c.args.text.now in
    let lt = c.loop-at-test.true in
    let here = stops c.loop-at.scan c.next-scan.result text c.loop-at.at lt c.next-scan.ensures
    (sym c.is_end.ensures ∙ c.if-is_end.true) in
    ends_at text value rest (c.loop-at.at + 1) (omega (arith, lt)) is (sym here
    ∙ c.loop-at.invariant.0 ∙ ends_value text value rest h is)

pub returns-clause-name : goal.returns-clause-name
returns-clause-name c = λ key rest is.
    let text = c.args.text.now in
    absurd (passed_all c.loop-at.scan text rest c.loop-at.at _
    (omega (arith, c.loop-at-test.false)) c.loop-at.invariant.0 (ends_name text key rest is))

pub returns-clause-value : goal.returns-clause-value
returns-clause-value c = λ value rest h is.
    let text = c.args.text.now in
    absurd (passed_all c.loop-at.scan text rest c.loop-at.at _
    (omega (arith, c.loop-at-test.false)) c.loop-at.invariant.0
    (ends_value text value rest h is))
