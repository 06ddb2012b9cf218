use Rattle.std.proofs.Common.{rules, ◌≡◌, length, ◌++◌, ◌∷◌, []}
use Rattle.fp_disk.specs.declared.call.Progress.TheVariants.{Whole}
use Rattle.fp_disk.specs.declared.call.Request.TheVariants.{Sync}
use Rattle.fp_disk.proofs.Keeping.{keeps_failed_sync, keeps_sync}
use Rattle.fp_disk.proofs.memory.MemoryDiskDisk.sync.Goals as goal

pub invariant_of-self-then-not-is_whole : goal.invariant_of-self-then-not-is_whole
invariant_of-self-then-not-is_whole c = keeps_failed_sync _ _ _ _ _ _ c.self.invariant _ _ (search rules) c.in-Ok-note.ensures.ok

pub invariant_of-self-2 : goal.invariant_of-self-2
invariant_of-self-2 c =
    let whole : c.progress-progress.result ≡ Whole = search rules in
    let length_is : c.len.result ≡ length c.self.inside.bytes.items = search rules in
    let made : c.note.new.calls.items ≡ c.self.inside.calls.items ++ (record { request = Sync; progress = Whole }) ∷
    [] = rw (← whole) c.in-Ok-note.ensures.ok in
    rw length_is (keeps_sync _ _ _ _ _ _ c.self.invariant _ _ _ (search rules) made (search rules))
