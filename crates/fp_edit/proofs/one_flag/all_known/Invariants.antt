use Rattle.std.proofs.Common.{◌≡◌, drop}
use Rattle.fp_base.specs.TreeView.{tree_members}
use Rattle.fp_edit.specs.Line.{all_known}
use Rattle.fp_edit.proofs.one_flag.all_known.Given as goal

-- what is left decides for all
abbrev pub invariant-loop-member : goal.invariant-loop-member
invariant-loop-member l =
    all_known (tree_members (drop l.member-index l.members)) ≡ all_known (tree_members l.members)
