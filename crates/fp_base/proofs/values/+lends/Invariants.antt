use Rattle.std.proofs.Common.{◌≡◌, List, ◌++◌, map, take}
use Rattle.serde_json.specs.View.{view, members_view}
use Rattle.serde_json.proofs.Views.{Entry}
use Rattle.fp_base.specs.Ordered.{AreOrdered, MembersAreOrdered}
use Rattle.fp_base.specs.TreeView.{tree_view, tree_items, tree_members}
use Rattle.fp_base.proofs.values.+lends.Given as goal

abbrev pub invariant-lent_items-loop-item : goal.invariant-lent_items-loop-item
invariant-lent_items-loop-item l =
    (map tree_view l.found.items ≡ map view (take l.item-index l.item-items))
    × AreOrdered (tree_items l.found.items)

abbrev pub invariant-lent_members-loop-name : goal.invariant-lent_members-loop-name
invariant-lent_members-loop-name l =
    (done : List Entry) × (l.members.entries ≡ done ++ l.name-iterator) × (tree_members l.found.items ≡ members_view done)
    × MembersAreOrdered (tree_members l.found.items)
