use Rattle.std.proofs.Common.{◌≡◌, map, take}
use Rattle.fp_desk.proofs.Queues.{part_in}
use Rattle.fp_desk.proofs.queue.same_parts.Given as goal

abbrev pub invariant-loop-i : goal.invariant-loop-i
invariant-loop-i l = map part_in (take l.i l.changes) ≡ map part_in (take l.i l.others)
