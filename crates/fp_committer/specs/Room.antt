-- Steps of a compaction, as a store at rest takes them.
use Rattle.std.specs.Prelude.{◌≡◌, ◌≢◌, ◌⊎◌, ◌<◌, ◌+◌, ◌/◌, true, false}
use Rattle.fp_disk.specs.Crashes.{AtAnyMoment, EachCrash, SameHonesty}
use Rattle.fp_disk.specs.declared.disk.Disk.{Ghosts}
use Rattle.fp_recovery.specs.Stands.{StandsFor}
use Rattle.fp_slots.specs.Numbers.{VERSION}
use Rattle.fp_slots.specs.declared.slots.Step.TheVariants.{Begin}
use Rattle.fp_group_commit.specs.Store.{MayCompact, StoreState, sealed_set}
use Rattle.fp_committer.specs.Works.{BreaksOff, Works}
use Rattle.fp_committer.specs.declared.fault.CommitFault.{CommitFault}
use Rattle.fp_committer.specs.declared.fault.CommitFault.TheVariants.{StoreFailed, Memory}

-- the store has the same edits, no batch is on its way,
-- and whatever a crash leaves at any moment is those
pub record StaysAt {D : Type 0} (disk : Ghosts D) (a b : StoreState D) : Type 0 where
  pub store : b.store ≡ a.store
  pub sealed : b.sealed ≡ a.sealed
  pub staged : b.staged ≡ a.staged
  pub phase : b.phase ≡ a.phase
  pub any_moment : AtAnyMoment disk a.disk b.disk (λ c. StandsFor c (sealed_set a))
  pub now : EachCrash disk b.disk (λ c. StandsFor c (sealed_set b))
  pub honest : SameHonesty disk a.disk b.disk

-- and the device hasn't failed
pub record Proceeds {D : Type 0} (disk : Ghosts D) (a b : StoreState D) : Type 0 where
  pub stays : StaysAt disk a b
  pub well : b.failed ≡ false
  pub no_failure : disk.faults b.disk ≡ disk.faults a.disk
  pub works : Works disk a b

-- a step wasn't taken, and the device failed, or memory was wanting
pub record Halts {D : Type 0} (disk : Ghosts D) (a b : StoreState D)
    (f : CommitFault) : Type 0 where
  pub stays : StaysAt disk a b
  pub works : BreaksOff disk a b
  pub cause : f ≡ StoreFailed → (b.failed ≡ true) × (disk.faults a.disk < disk.faults b.disk)
  pub memory : f ≡ Memory → (b.failed ≡ false) × (disk.faults b.disk ≡ disk.faults a.disk)

-- a step is due: a compaction runs, or one may begin, where less than a quarter of a slot is left
-- for batches, or the slot is older than all that is written
abbrev pub IsDue : {D : Type 0} → StoreState D → Type 0
IsDue s = (s.compaction.next ≢ Begin) ⊎ (MayCompact s
    × ((s.room < s.store.start.limit / 2) ⊎ (s.compaction.version < VERSION)))

-- a compaction that ran came to its end, and no other: the generation is the next one
abbrev pub EndsOne : {D : Type 0} → StoreState D → StoreState D → Type 0
EndsOne a b = a.compaction.next ≢ Begin
    → b.compaction.generation ≡ a.compaction.generation + 1

-- memory was wanting for one to begin, and nothing changed
abbrev pub BeginsNone : {D : Type 0} → StoreState D → StoreState D → Type 0
BeginsNone a b = (a.compaction.next ≡ Begin) × (b ≡ a)
