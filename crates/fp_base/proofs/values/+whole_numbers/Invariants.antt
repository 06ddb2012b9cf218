use Rattle.std.proofs.Common.{◌≡◌, ◌<◌}
use Rattle.std.specs.Slice.Iter.{iter_rest}
use Rattle.serde_json.specs.Events.{items_len, members_len}
use Rattle.fp_base.specs.Count.{count, items_count, members_count}
use Rattle.fp_base.specs.Whole.{is_whole, items_whole, members_whole}
use Rattle.serde_json.specs.View.{view, items_view, members_view}
use Rattle.fp_base.proofs.values.+whole_numbers.Given as goal

abbrev pub decreases-whole_numbers : goal.decreases-whole_numbers
decreases-whole_numbers l = count (view l.value.now)

-- what is left decides for all
abbrev pub invariant-loop-item : goal.invariant-loop-item
invariant-loop-item l =
    (items_count (items_view (iter_rest l.items)) < count (view l.fn.value))
    × (items_whole (items_view (iter_rest l.items)) ≡ is_whole (view l.fn.value))

abbrev pub decreases-loop-item : goal.decreases-loop-item
decreases-loop-item l = items_len (items_view (iter_rest l.items))

abbrev pub invariant-loop-name : goal.invariant-loop-name
invariant-loop-name l =
    (members_count (members_view l.members) < count (view l.fn.value))
    × (members_whole (members_view l.members) ≡ is_whole (view l.fn.value))

abbrev pub decreases-loop-name : goal.decreases-loop-name
decreases-loop-name l = members_len (members_view l.members)
