use Rattle.std.proofs.Common.{◌≡◌, ◌≤◌, ◌+◌, ◌*◌, suc, drop, length, map, vec_capacity, vec_len}
use Rattle.serde_json.specs.Data.{depth, items_depth, members_depth}
use Rattle.fp_base.specs.TreeView.{tree_view, tree_items, tree_members}
use Rattle.fp_imports.specs.References.{replacement, items_expansion, members_expansion}
use Rattle.fp_imports.proofs.Walks.{after_items, after_members}
use Rattle.fp_imports.proofs.references.+expands.Given as goal

-- each replacement counts more than the evaluators are deep
abbrev pub decreases-expand_value : goal.decreases-expand_value
decreases-expand_value l = 2 * (l.more * suc (members_depth (tree_members l.evaluators.now)) + depth (tree_view l.value.now))

abbrev pub decreases-expand_reference : goal.decreases-expand_reference
decreases-expand_reference l = 2 * (l.more * suc (members_depth (tree_members l.evaluators.now))) + 1

abbrev pub decreases-expand_items : goal.decreases-expand_items
decreases-expand_items l = 2 *
    (l.more * suc (members_depth (tree_members l.evaluators.now)) + items_depth (tree_items l.items.now)) + 1

abbrev pub decreases-expand_members : goal.decreases-expand_members
decreases-expand_members l = 2 *
    (l.more * suc (members_depth (tree_members l.evaluators.now)) + members_depth (tree_members l.members.now))
    + 1

-- what is found, before the walk of what is left, is the walk of all; there is room for all
abbrev pub invariant-expand_items-loop-item : goal.invariant-expand_items-loop-item
invariant-expand_items-loop-item l =
    (after_items (map tree_view l.found.items)
    (items_expansion (replacement (tree_members l.evaluators) l.more)
    (tree_items (drop l.item-index l.items)) l.unused)
    ≡ items_expansion (replacement (tree_members l.evaluators) l.more) (tree_items l.items) l.left)
    × (vec_len l.found ≡ l.item-index)
    × (length l.items ≤ vec_capacity l.found)

abbrev pub invariant-expand_members-loop-member : goal.invariant-expand_members-loop-member
invariant-expand_members-loop-member l =
    (after_members (tree_members l.found.items)
    (members_expansion (replacement (tree_members l.evaluators) l.more)
    (tree_members (drop l.member-index l.members)) l.unused)
    ≡ members_expansion (replacement (tree_members l.evaluators) l.more) (tree_members l.members) l.left)
    × (vec_len l.found ≡ l.member-index)
    × (length l.members ≤ vec_capacity l.found)
