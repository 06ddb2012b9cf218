use Rattle.std.proofs.Common.{◌∙◌, Ok, ap, sym, subst}
use Rattle.std.proofs.lemmas.Result.{IfErr-weaker}
use Rattle.fp_base.specs.Answer.{Gives}
use Rattle.fp_base.specs.TreeView.{tree_view}
use Rattle.fp_base.proofs.Views.{view-Object}
use Rattle.fp_edit.specs.Edits.{proposal_of, single}
use Rattle.fp_edit.specs.Line as says
use Rattle.fp_edit.specs.Spelled.{Tells}
use Rattle.fp_edit.proofs.Asking.{asks-set}
use Rattle.fp_edit.proofs.Lines.{seen_members, edit_of_set, edit_of_part, stops}
use Rattle.fp_edit.proofs.line.edit_in.Goals as goal

pub returns-then-is_set-clause-value : goal.returns-then-is_set-clause-value
returns-then-is_set-clause-value c =
    let d = tree_view c.args.tree.now in
    let seen = seen_members _ c.in-Object.members c.in-Object.is in
    let set = sym (c.is_set.ensures ∙ ap says.is_set_text c.get-op.ensures) ∙ c.if-is_set.true in
    subst (Gives proposal_of Tells c.set_in.result) (sym (edit_of_set d _ seen set)) c.set_in.ensures.value

pub returns-in-Err-clause-value : goal.returns-in-Err-clause-value
returns-in-Err-clause-value c =
    let d = tree_view c.args.tree.now in
    let seen = ap tree_view c.in-Object.is ∙ view-Object c.in-Object.members in
    let one = sym (c.is_set.ensures ∙ ap says.is_set_text c.get-op.ensures) ∙ c.if-is_set.false in
    stops c.line_fault.result (says.part_in d) (λ p. Ok (single p)) _ (edit_of_part d _ seen one)
    (c.line_fault.ensures.told (says.part_in d) c.in-Err.ensures.value)

pub returns-then-is_set-clause-memory : goal.returns-then-is_set-clause-memory
returns-then-is_set-clause-memory c =
    let d = tree_view c.args.tree.now in
    let seen = seen_members _ c.in-Object.members c.in-Object.is in
    let set = sym (c.is_set.ensures ∙ ap says.is_set_text c.get-op.ensures) ∙ c.if-is_set.true in
    IfErr-weaker c.set_in.result _ _ (λ e h wanting. asks-set d _ seen set (h wanting)) c.set_in.ensures.memory
