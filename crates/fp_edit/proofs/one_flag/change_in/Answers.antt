use Rattle.std.proofs.Common.{◌∙◌, sym, subst}
use Rattle.std.proofs.lemmas.Result.{IfErr-weaker}
use Rattle.fp_base.specs.Answer.{Gives}
use Rattle.fp_base.specs.TreeView.{tree_view}
use Rattle.fp_edit.specs.Parts.{proposed_of}
use Rattle.fp_edit.specs.Spelled.{TellsPart}
use Rattle.fp_edit.proofs.Asking.{asks-part}
use Rattle.fp_edit.proofs.Lines.{seen_members, part_known, part_unknown}
use Rattle.fp_edit.proofs.one_flag.change_in.Goals as goal

pub returns-then-not-all_known-clause-value : goal.returns-then-not-all_known-clause-value
returns-then-not-all_known-clause-value c =
    part_unknown (tree_view c.args.tree.now) _ (seen_members _ c.in-Object.members c.in-Object.is)
    (sym c.all_known.ensures ∙ c.if-not-all_known.true)

pub returns-clause-value : goal.returns-clause-value
returns-clause-value c =
    let known = part_known (tree_view c.args.tree.now) _ (seen_members _ c.in-Object.members c.in-Object.is)
    (sym c.all_known.ensures ∙ c.if-not-all_known.false) in
    subst (Gives proposed_of TellsPart c.change_with.result) (sym known) c.change_with.ensures.value

pub returns-clause-memory : goal.returns-clause-memory
returns-clause-memory c =
    let d = tree_view c.args.tree.now in
    let seen = seen_members _ c.in-Object.members c.in-Object.is in
    let known = sym c.all_known.ensures ∙ c.if-not-all_known.false in
    IfErr-weaker c.change_with.result _ _ (λ e h wanting. asks-part d _ seen known (h wanting)) c.change_with.ensures.memory
