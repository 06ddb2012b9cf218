use Rattle.std.proofs.Common.{◌≡◌, drop}
use Rattle.fp_base.specs.TreeView.{tree_members}
use Rattle.fp_definition.specs.Kinds.{all_scalars}
use Rattle.fp_definition.proofs.kind.are_scalars.Given as goal

abbrev pub invariant-loop-member : goal.invariant-loop-member
invariant-loop-member l = all_scalars (tree_members (drop l.member-index l.members)) ≡ all_scalars (tree_members l.members)
