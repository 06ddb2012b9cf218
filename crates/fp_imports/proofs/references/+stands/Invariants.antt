use Rattle.std.proofs.Common.{◌≡◌, ◌+◌, drop, false}
use Rattle.fp_base.specs.Count.{items_count, members_count}
use Rattle.fp_base.specs.TreeView.{tree_items, tree_members}
use Rattle.fp_imports.specs.Refers.{items_refer, members_refer}
use Rattle.fp_imports.proofs.references.+stands.Given as goal

-- what is left decides for all, and is counted from what is left
abbrev pub invariant-uncounted_items-loop-item : goal.invariant-uncounted_items-loop-item
invariant-uncounted_items-loop-item l =
    (items_refer (tree_items (drop l.item-index l.items)) ≡ false → items_refer (tree_items l.items) ≡ false)
    × (l.left + items_count (tree_items (drop l.item-index l.items)) ≡ l.unused + items_count (tree_items l.items))

abbrev pub invariant-uncounted_members-loop-member : goal.invariant-uncounted_members-loop-member
invariant-uncounted_members-loop-member l =
    (members_refer (tree_members (drop l.member-index l.members)) ≡ false → members_refer (tree_members l.members) ≡ false)
    × (l.left + members_count (tree_members (drop l.member-index l.members)) ≡ l.unused + members_count (tree_members l.members))
