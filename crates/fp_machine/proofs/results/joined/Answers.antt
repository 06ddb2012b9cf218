use Rattle.std.proofs.Common.{ap, sym, ◌∙◌}
use Rattle.std.specs.Prelude.{string_bytes}
use Rattle.fp_operators.specs.Data.{text}
use Rattle.fp_operators.proofs.Variants.{view-Null, view-Text}
use Rattle.fp_machine.proofs.Joined.{joined-more, joined-none, joined-all}
use Rattle.fp_machine.proofs.results.joined.Goals as goal

pub returns-then-not-branch : goal.returns-then-not-branch
returns-then-not-branch c =
    view-Null
    ∙ sym (joined-none c.args.parts.now c.loop-part.part-index c.part-item.result (string_bytes c.loop-part.text)
    (string_bytes c.append_text.new.out) c.loop-part-test.true c.part-item.is c.loop-part.invariant c.in_ok-append_text.field-0
    c.if-not-branch.true (rw (← c.datum.ensures) c.in_ok-append_text.ensures.text))

pub loop-part-preserved : goal.loop-part-preserved
loop-part-preserved c =
    joined-more c.args.parts.now c.loop-part.part-index c.part-item.result (string_bytes c.loop-part.text)
    (string_bytes c.append_text.new.out) c.loop-part-test.true c.part-item.is c.loop-part.invariant c.in_ok-append_text.field-0
    c.if-not-branch.false (rw (← c.datum.ensures) c.in_ok-append_text.ensures.text)

pub returns : goal.returns
returns c =
    view-Text c.from.result
    ∙ ap (λ s. text s.bytes) c.from.ensures
    ∙ joined-all c.args.parts.now c.loop-part.part-index (string_bytes c.loop-part.text) c.loop-part-test.false c.loop-part.invariant
