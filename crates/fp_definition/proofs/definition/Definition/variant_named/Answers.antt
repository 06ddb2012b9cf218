use Rattle.std.proofs.Common.{sym, ap, ap₂, subst, ◌∙◌}
use Rattle.serde_json.specs.Data.{no_members}
use Rattle.serde_json.specs.Find.{get_member}
use Rattle.fp_base.specs.Sorted.{IsSorted}
use Rattle.fp_definition.specs.Resolving.{outcome_of_variant, outcome_spelled}
use Rattle.fp_definition.specs.Spelled.{spelled}
use Rattle.fp_definition.proofs.Said.{get_texts, said_found, said_none, sorted_texts}
use Rattle.fp_definition.proofs.definition.Definition.variant_named.Goals as goal

pub variant_named-requires-clause-sorted : goal.variant_named-requires-clause-sorted
variant_named-requires-clause-sorted c =
    let is = c.choice.ensures in
    let same = ap₂ (λ xs vs. spelled xs vs no_members) c.text.ensures.text c.deref.ensures.value in
    subst IsSorted (sym (same ∙ is.values.spelled)) (sorted_texts is.members is.sorted)

pub returns-in-Some-clause-resolves : goal.returns-in-Some-clause-resolves
returns-in-Some-clause-resolves c =
    let is = c.choice.ensures in let name = c.args.name.now in
    let same = ap₂ (λ xs vs. spelled xs vs no_members) c.text.ensures.text c.deref.ensures.value ∙ is.values.spelled in
    ap (λ o. outcome_spelled (outcome_of_variant name c.args.reason o)) is.variants
    ∙ said_found (get_member name is.members) name c.in-Some.variant.now c.in-Some.value.now c.args.reason
    (c.in-Some.ensures.value ∙ ap (get_member name) same ∙ get_texts name is.members) c.in-Some.ensures.named

pub returns-in-None-clause-resolves : goal.returns-in-None-clause-resolves
returns-in-None-clause-resolves c =
    let is = c.choice.ensures in let name = c.args.name.now in
    let same = ap₂ (λ xs vs. spelled xs vs no_members) c.text.ensures.text c.deref.ensures.value ∙ is.values.spelled in
    ap (λ o. outcome_spelled (outcome_of_variant name c.args.reason o)) is.variants
    ∙ said_none (get_member name is.members) name c.args.reason
    (c.in-None.ensures.value ∙ ap (get_member name) same ∙ get_texts name is.members)
