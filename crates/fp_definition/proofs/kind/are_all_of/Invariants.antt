use Rattle.std.proofs.Common.{◌≡◌, drop}
use Rattle.fp_base.specs.TreeView.{tree_members}
use Rattle.fp_definition.specs.Kinds.{all_kind}
use Rattle.fp_definition.proofs.kind.are_all_of.Given as goal

abbrev pub invariant-loop-member : goal.invariant-loop-member
invariant-loop-member l = all_kind l.kind (tree_members (drop l.member-index l.members)) ≡ all_kind l.kind (tree_members l.members)
