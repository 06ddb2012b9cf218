use Rattle.std.proofs.Common.{◌≡◌, ◌<◌, suc}
use Rattle.std.specs.Slice.Iter.{iter_rest}
use Rattle.serde_json.specs.Events.{items_len, members_len}
use Rattle.std.specs.Prelude.{nat_le}
use Rattle.serde_json.specs.Data.{depth, items_depth, members_depth}
use Rattle.fp_base.specs.Count.{count, items_count, members_count}
use Rattle.fp_base.specs.TreeView.{tree_view, tree_items, tree_members}
use Rattle.fp_base.proofs.walks.+nests.Given as goal

abbrev pub decreases-nests : goal.decreases-nests
decreases-nests l = count (tree_view l.tree.now)

-- what is left decides for all
abbrev pub invariant-loop-item : goal.invariant-loop-item
invariant-loop-item l =
    (items_count (tree_items (iter_rest l.items)) < count (tree_view l.fn.tree))
    × (nat_le (suc (items_depth (tree_items (iter_rest l.items)))) l.fn.limit ≡ nat_le (depth (tree_view l.fn.tree)) l.fn.limit)

abbrev pub decreases-loop-item : goal.decreases-loop-item
decreases-loop-item l = items_len (tree_items (iter_rest l.items))

abbrev pub invariant-loop-name : goal.invariant-loop-name
invariant-loop-name l =
    (members_count (tree_members (iter_rest l.members)) < count (tree_view l.fn.tree))
    × (nat_le (suc (members_depth (tree_members (iter_rest l.members)))) l.fn.limit ≡ nat_le (depth (tree_view l.fn.tree)) l.fn.limit)

abbrev pub decreases-loop-name : goal.decreases-loop-name
decreases-loop-name l = members_len (tree_members (iter_rest l.members))
