use Rattle.std.proofs.Common.{◌≡◌, get_or, sym, ap, subst, ◌∙◌}
use Rattle.fp_edit.specs.Lent.{lent, lent_by, proposed}
use Rattle.fp_edit.specs.Parts.{ProposedPart, proposed_of}
use Rattle.fp_edit.specs.declared.lent.EditParts.{EditParts}
use Rattle.fp_edit.proofs.Lending.{part_at, proposed_at}
use Rattle.fp_edit.proofs.lent.EditParts.lend.Goals as goal

pub returns-in-Set-clause-part : goal.returns-in-Set-clause-part
returns-in-Set-clause-part c =
    let i = c.args.i in
    let x = c.index-changes-i.result in
    let here = proposed_at c.in-Set.changes.now i x c.index-changes-i.is
    ∙ ap (λ (e : EditParts). get_or (proposed (lent_by e)) i (proposed_of x)) (sym c.in-Set.is) in
    part_at (lent_by c.args.self) i (lent c.new.result)
    (subst (λ (y : ProposedPart). y ≡ get_or (proposed (lent_by c.args.self)) i y) (sym c.new.ensures) here)
