use Rattle.fp_disk.proofs.Keeping.{keeps_read}
use Rattle.fp_disk.proofs.memory.MemoryDiskDisk.read_at.Goals as goal

pub invariant_of-self-then-not-is_whole : goal.invariant_of-self-then-not-is_whole
invariant_of-self-then-not-is_whole c = keeps_read _ _ _ _ _ _ c.self.invariant _ _ _ _ c.in-Ok.ensures.ok

pub invariant_of-self-2 : goal.invariant_of-self-2
invariant_of-self-2 c = keeps_read _ _ _ _ _ _ c.self.invariant _ _ _ _ c.in-Ok.ensures.ok
