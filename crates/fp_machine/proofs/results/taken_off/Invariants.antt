use Rattle.std.proofs.Common.{◌≡◌, ◌≤◌, length, map}
use Rattle.std.specs.Prelude.{[]}
use Rattle.fp_operators.specs.View.{view}
use Rattle.fp_machine.specs.Found.{stack_view}
use Rattle.fp_machine.specs.Kept.{kept_items, kept_room}
use Rattle.fp_machine.specs.Stack.{off, onto}
use Rattle.fp_machine.proofs.results.taken_off.Given as goal

-- what is still to be taken comes behind what was
abbrev pub invariant-results : goal.invariant-results
invariant-results l = record {
  there : l.left ≤ length (kept_items l.kept);
  taken : off l.left (stack_view l.kept) (onto (map view l.items.items) []) ≡ off l.fn.count (stack_view l.fn.kept) [];
  room : kept_room l.kept ≡ kept_room l.fn.kept;
}

abbrev pub decreases-results : goal.decreases-results
decreases-results l = l.left
