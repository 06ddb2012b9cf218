use Rattle.std.proofs.Common.{◌≡◌, drop}
use Rattle.fp_base.specs.TreeView.{tree_members}
use Rattle.fp_edit.specs.Line.{all_known_in_set}
use Rattle.fp_edit.proofs.line.all_known_in_set.Given as goal

-- what is left decides for all
abbrev pub invariant-loop-member : goal.invariant-loop-member
invariant-loop-member l =
    all_known_in_set (tree_members (drop l.member-index l.members)) ≡ all_known_in_set (tree_members l.members)
