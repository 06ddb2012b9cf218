use Rattle.std.proofs.Common.{length, ◌-◌, ◌≤◌}
use Rattle.fp_base.proofs.Pieces.{Ascii}
use Rattle.fp_base.proofs.utf8.many_ascii_end.Given as goal

abbrev pub invariant-loop-end : goal.invariant-loop-end
invariant-loop-end l = (l.from ≤ l.end) × (l.end ≤ length l.bytes) × Ascii l.bytes l.from l.end

abbrev pub decreases-loop-end : goal.decreases-loop-end
decreases-loop-end l = length l.bytes - l.end
