use Rattle.std.proofs.Common.{◌≤◌, ◌-◌, length, take, drop}
use Rattle.fp_base.specs.Places.{AreBefore, IsNotBefore}
use Rattle.fp_base.proofs.places.place_of.Given as goal

-- those in front come before the name, and the first of those behind doesn't
abbrev pub invariant-loop-low : goal.invariant-loop-low
invariant-loop-low l =
    (l.low ≤ l.high) × (l.high ≤ length l.members) × AreBefore l.name (take l.low l.members) × IsNotBefore l.name (drop l.high l.members)

abbrev pub decreases-loop-low : goal.decreases-loop-low
decreases-loop-low l = l.high - l.low
