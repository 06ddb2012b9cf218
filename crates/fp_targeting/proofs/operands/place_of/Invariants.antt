use Rattle.std.proofs.Common.{◌≤◌, length}
use Rattle.fp_targeting.proofs.operands.place_of.Given as goal

abbrev pub invariant-pool : goal.invariant-pool
invariant-pool l = l.left ≤ length l.pool

abbrev pub decreases-pool : goal.decreases-pool
decreases-pool l = l.left
