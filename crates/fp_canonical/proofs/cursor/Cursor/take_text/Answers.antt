use Rattle.std.proofs.Common.{◌++◌, drop, length, sym, ap, ◌∙◌}
use Rattle.std.proofs.lemmas.List.{take-append-drop}
use Rattle.std.proofs.lemmas.Slice.Eq.{bytes_eq-Decides}
use Rattle.fp_canonical.proofs.cursor.Cursor.take_text.Goals as goal

pub returns-clause-taken : goal.returns-clause-taken
returns-clause-taken c = λ h.
    let n = length c.args.text.now in
    let bytes = c.as_bytes.result.now in
    let same = (bytes_eq-Decides _ c.args.text.now).0 c.in-Some.ensures.cases.0 in
    sym c.self.view_is ∙ sym c.as_bytes.ensures.value ∙ sym (take-append-drop n bytes) ∙ ap (λ xs. xs ++ drop n bytes) same
    ∙ ap (λ xs. c.args.text.now ++ xs) (ap (drop n) c.as_bytes.ensures.value ∙ sym c.range_from-self-inside.ensures.value)
