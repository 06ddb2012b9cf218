use Rattle.std.proofs.Common.{◌≡◌, [], sym, subst, ◌∙◌}
use Rattle.serde_json.specs.Data.{object}
use Rattle.fp_canonical.specs.Reads.{Reads}
use Rattle.fp_canonical.specs.declared.reading.Unread.TheVariants.{Memory, NotCanonical}
use Rattle.fp_definition.specs.Numbers.{DEEPEST_DEFINITION}
use Rattle.fp_definition.proofs.Refused.{not_read}
use Rattle.fp_definition.proofs.definition.read_text.Goals as goal

apart : NotCanonical ≡ Memory → ⊥
apart h = cc

pub returns-clause-exact : goal.returns-clause-exact
returns-clause-exact c = λ alone. sym (not_read c.args.text.now (λ ms reads.
    let same : c.in-Some.whole.now ≡ c.args.text.now = c.in-Some.ensures.0 in
    apart (sym c.in-Err-NotCanonical.field-0-is
    ∙ c.in-Err-NotCanonical.ensures.taken ms alone (subst (λ xs. Reads DEEPEST_DEFINITION (object ms) xs []) (sym same) reads))))
