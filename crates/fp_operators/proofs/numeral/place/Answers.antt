use Rattle.std.proofs.Common.{◌||◌, ap, ◌∙◌, sym}
use Rattle.fp_operators.specs.Numeral.{begins_with_plus, leads_with_zero}
use Rattle.fp_operators.proofs.Numerals.{reads_place, no_place}
use Rattle.fp_operators.proofs.numeral.place.Goals as goal

pub returns : goal.returns
returns c =
    c.ok.ensures.value ∙ reads_place c.args.text.now c.parse.result c.parse.ensures.value.0
    (sym (ap (λ bs. begins_with_plus bs || leads_with_zero bs) c.as_bytes.ensures.value) ∙
    sym c.has_plus_or_zero.ensures ∙ c.if-has_plus_or_zero.false)

pub returns-then-has_plus_or_zero : goal.returns-then-has_plus_or_zero
returns-then-has_plus_or_zero c =
    no_place c.args.text.now (sym (ap (λ bs. begins_with_plus bs || leads_with_zero bs) c.as_bytes.ensures.value) ∙
    sym c.has_plus_or_zero.ensures ∙ c.if-has_plus_or_zero.true)
