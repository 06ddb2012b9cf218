use Rattle.std.proofs.Common.{◌-◌, length}
use Rattle.fp_journal.proofs.OnlyReading.{IsReadOn}
use Rattle.fp_journal.proofs.pieces.read_on.Given as goal

abbrev pub invariant-loop-alloc : goal.invariant-loop-alloc
invariant-loop-alloc g l = IsReadOn g.D.Disk l.initial.disk l.disk l.first l.initial.bytes.items l.bytes.items l.count

abbrev pub decreases-loop-alloc : goal.decreases-loop-alloc
decreases-loop-alloc g l = l.stop - length l.bytes.items
