use Rattle.std.proofs.Common.{◌≡◌, ◌<◌}
use Rattle.std.specs.Slice.Iter.{iter_rest}
use Rattle.serde_json.specs.Events.{items_len, members_len}
use Rattle.fp_base.specs.Count.{count, items_count, members_count}
use Rattle.fp_base.specs.Whole.{is_whole, items_whole, members_whole}
use Rattle.fp_base.specs.TreeView.{tree_view, tree_items, tree_members}
use Rattle.fp_base.proofs.walks.+is_whole.Given as goal

abbrev pub decreases-is_whole : goal.decreases-is_whole
decreases-is_whole l = count (tree_view l.tree.now)

-- what is left decides for all
abbrev pub invariant-loop-item : goal.invariant-loop-item
invariant-loop-item l =
    (items_count (tree_items (iter_rest l.items)) < count (tree_view l.fn.tree))
    × (items_whole (tree_items (iter_rest l.items)) ≡ is_whole (tree_view l.fn.tree))

abbrev pub decreases-loop-item : goal.decreases-loop-item
decreases-loop-item l = items_len (tree_items (iter_rest l.items))

abbrev pub invariant-loop-name : goal.invariant-loop-name
invariant-loop-name l =
    (members_count (tree_members (iter_rest l.members)) < count (tree_view l.fn.tree))
    × (members_whole (tree_members (iter_rest l.members)) ≡ is_whole (tree_view l.fn.tree))

abbrev pub decreases-loop-name : goal.decreases-loop-name
decreases-loop-name l = members_len (tree_members (iter_rest l.members))
