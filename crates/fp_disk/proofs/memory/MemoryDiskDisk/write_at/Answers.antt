use Rattle.fp_disk.proofs.Keeping.{keeps_write}
use Rattle.fp_disk.proofs.memory.MemoryDiskDisk.write_at.Goals as goal

pub invariant_of-self-then-not-is_whole : goal.invariant_of-self-then-not-is_whole
invariant_of-self-then-not-is_whole c =
    rw c.max-self-inside.ensures (keeps_write _ _ _ _ _ _ c.self.invariant _ _ _ _ _ _ c.in-Ok.ensures.brought
    c.in-Ok.ensures.bytes c.in-Ok.ensures.end c.in-Ok.ensures.calls)

pub invariant_of-self-else-not-is_whole : goal.invariant_of-self-else-not-is_whole
invariant_of-self-else-not-is_whole c =
    rw c.max-self-inside.ensures (keeps_write _ _ _ _ _ _ c.self.invariant _ _ _ _ _ _ c.in-Ok.ensures.brought
    c.in-Ok.ensures.bytes c.in-Ok.ensures.end c.in-Ok.ensures.calls)

pub returns-then-not-is_whole-clause-honest : goal.returns-then-not-is_whole-clause-honest
returns-then-not-is_whole-clause-honest c =
    (keeps_write _ _ _ _ _ _ c.self.invariant _ _ _ _ _ _ c.in-Ok.ensures.brought c.in-Ok.ensures.bytes
    c.in-Ok.ensures.end c.in-Ok.ensures.calls).holds

pub returns-clause-honest : goal.returns-clause-honest
returns-clause-honest c = (keeps_write _ _ _ _ _ _ c.self.invariant _ _ _ _ _ _ c.in-Ok.ensures.brought
    c.in-Ok.ensures.bytes c.in-Ok.ensures.end c.in-Ok.ensures.calls).holds
