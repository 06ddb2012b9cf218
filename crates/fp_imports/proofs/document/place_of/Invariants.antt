use Rattle.std.proofs.Common.{◌≡◌, drop}
use Rattle.serde_json.specs.Find.{get_member}
use Rattle.fp_base.specs.TreeView.{tree_members}
use Rattle.fp_imports.proofs.document.place_of.Given as goal

-- what is found in what is left is found in all
abbrev pub invariant-loop-at : goal.invariant-loop-at
invariant-loop-at l = get_member l.name (tree_members (drop l.at l.members)) ≡ get_member l.name (tree_members l.members)
