use Rattle.std.proofs.Common.{ap, ◌∙◌, sym}
use Rattle.fp_operators.specs.Numeral.{begins_with_plus}
use Rattle.fp_operators.proofs.Numerals.{reads_whole_number}
use Rattle.fp_operators.proofs.numeral.whole_number.Goals as goal

pub returns : goal.returns
returns c =
    c.ok.ensures.value ∙ reads_whole_number c.args.text.now c.parse.result c.parse.ensures.value.0
    (sym (ap begins_with_plus c.as_bytes.ensures.value) ∙ sym c.has_plus.ensures ∙ c.if-has_plus.false)
