use Rattle.std.proofs.Common.{◌++◌, Some, drop, length, sym, ap, ◌∙◌}
use Rattle.std.proofs.lemmas.List.{take-append-drop}
use Rattle.std.proofs.lemmas.Slice.Eq.{bytes_eq-Decides}
use Rattle.fp_definition.specs.Valid.{is_definition_text}
use Rattle.fp_shown.proofs.Ends.{same_end}
use Rattle.fp_shown.proofs.members.end_of_definition.Goals as goal

pub returns-clause-value : goal.returns-clause-value
returns-clause-value c = λ value rest h is.
    let text = c.args.text.now in
    let known = c.text.result.now in
    let n = length known in
    let front = (bytes_eq-Decides _ known).0 c.in-Some-strip_prefix.ensures.cases.0 in
    let whole = sym (take-append-drop n text) ∙ ap (λ xs. xs ++ drop n text) front in
    let canonical = ap is_definition_text c.text.ensures.text ∙ c.text.ensures.canonical in
    ap Some (ap length (c.text-2.ensures.text ∙ sym c.text.ensures.text)
    ∙ same_end text known (drop n text) value rest canonical whole h is)
