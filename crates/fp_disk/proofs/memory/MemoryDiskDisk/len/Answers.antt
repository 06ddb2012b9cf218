use Rattle.fp_disk.proofs.Keeping.{keeps_len}
use Rattle.fp_disk.proofs.memory.MemoryDiskDisk.len.Goals as goal

pub invariant_of-self-then-not-is_whole : goal.invariant_of-self-then-not-is_whole
invariant_of-self-then-not-is_whole c = keeps_len _ _ _ _ _ _ c.self.invariant _ _ c.in-Ok.ensures.ok

pub invariant_of-self-2 : goal.invariant_of-self-2
invariant_of-self-2 c = keeps_len _ _ _ _ _ _ c.self.invariant _ _ c.in-Ok.ensures.ok
