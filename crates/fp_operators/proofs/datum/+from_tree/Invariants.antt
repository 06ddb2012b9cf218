use Rattle.std.proofs.Common.{◌≡◌, take, drop, map}
use Rattle.fp_base.specs.Ordered.{AreOrdered, MembersAreOrdered}
use Rattle.fp_base.specs.TreeView.{tree_view, tree_items, tree_members}
use Rattle.fp_operators.specs.View.{view, members_view}
use Rattle.fp_operators.specs.FromJson.{data_of}
use Rattle.fp_operators.proofs.Views.{IsFilledTo, seen_entry, read_entry}
use Rattle.fp_operators.proofs.datum.+from_tree.Given as goal

-- what is found is the data of the items before this one, and what is left is ordered
abbrev pub invariant-from_items-loop-item : goal.invariant-from_items-loop-item
invariant-from_items-loop-item l =
    (map view l.found.items ≡ map (λ t. data_of (tree_view t)) (take l.item-index l.items))
    × AreOrdered (tree_items (drop l.item-index l.items))

-- the map has what is before this member, and what is left goes behind it and is ordered
abbrev pub invariant-from_few-loop-member : goal.invariant-from_few-loop-member
invariant-from_few-loop-member l =
    IsFilledTo (members_view l.found.entries) (tree_members (drop l.member-index l.members)) (tree_members l.members)
    × MembersAreOrdered (tree_members (drop l.member-index l.members))

-- what is found is the data of the members before this one, and what is left is ordered
abbrev pub invariant-from_many-loop-member : goal.invariant-from_many-loop-member
invariant-from_many-loop-member l =
    (map seen_entry l.found.items ≡ map read_entry (take l.member-index l.members))
    × MembersAreOrdered (tree_members (drop l.member-index l.members))
