use Rattle.std.proofs.Common.{◌≡◌, drop}
use Rattle.serde_json.specs.Find.{get_member}
use Rattle.fp_base.specs.TreeView.{tree_members}
use Rattle.fp_base.proofs.tree.member_named.Given as goal

-- what is found in what is left is found in all
abbrev pub invariant-loop-member : goal.invariant-loop-member
invariant-loop-member l =
    get_member l.name (tree_members (drop l.member-index l.members)) ≡ get_member l.name (tree_members l.members)
