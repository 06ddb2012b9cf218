use Rattle.std.proofs.Common.{◌≡◌, List, ◌++◌, take, map}
use Rattle.fp_operators.specs.View.{view, members_view}
use Rattle.fp_operators.proofs.Views.{Entry}
use Rattle.fp_operators.proofs.datum.+copy.Given as goal

abbrev pub invariant-copy_items-loop-item : goal.invariant-copy_items-loop-item
invariant-copy_items-loop-item l = map view l.copies.items ≡ map view (take l.item-index l.item-items)

abbrev pub invariant-copy_members-loop-key : goal.invariant-copy_members-loop-key
invariant-copy_members-loop-key l =
    (done : List Entry) × (l.members.entries ≡ done ++ l.key-iterator) × (members_view l.copies.entries ≡ members_view done)
