-- What holds of a store between its calls.
use Rattle.std.specs.Prelude.{◌≡◌, ◌≢◌, ◌⊎◌, ◌+◌, ◌≤◌, ◌/◌, ℕ, false, List, [], length}
use Rattle.fp_disk.specs.Outcomes.{PendingState}
use Rattle.fp_edit.specs.Edits.{Change}
use Rattle.fp_edit.specs.Flags.{State}
use Rattle.fp_pending.specs.Following.{Follows}
use Rattle.fp_edit.specs.Log.{after_all}
use Rattle.fp_journal.specs.declared.journal.Phase.TheVariants.{Failed}
use Rattle.fp_record.specs.WellFormed.{IsBatch}
use Rattle.fp_recovery.specs.Stands.{TakesBatch}
use Rattle.fp_journal.specs.State.{room}
use Rattle.fp_journal.specs.Numbers.{FRAME}
use Rattle.fp_slots.specs.State.{HasBegun, IsEarly}
use Rattle.fp_slots.specs.Numbers.{IMAGE_PLACE}
use Rattle.fp_compaction.specs.Batches.{FitsBeside, IsReadyFor}
use Rattle.fp_compaction.specs.Sets.{IsKeptIn, IsPlaced, IsPlannedFor}
use Rattle.fp_record.specs.Encoding.{batch_len}
use Rattle.fp_group_commit.specs.Inside.{Inside, journal_phase, seen}
use Rattle.fp_group_commit.specs.Store.{coming, sealed_set}
use Rattle.fp_group_commit.specs.declared.phase.Phase.TheVariants.{Idle}

-- The batch on its way leads on from what is sealed, its edits are kept for the set, and those
-- before it are all in the set. A compaction that can take it has it ready
pub record IsFlight {D : Type 0} (s : Inside D) (first : ℕ)
    (ahead copies : List Change) : Type 0 where
  pub on_way : s.phase ≢ Idle
  pub none : ahead ≡ []
  pub copied : copies ≡ s.staged
  pub follows : Follows (sealed_set (seen s)) s.staged
  pub place : first ≡ (sealed_set (seen s)).revision + 1
  pub lawful : IsBatch (record { first = first; changes = s.staged })
  pub short : length s.slots.journal.staged ≤ s.slots.journal.slot.most
  pub takes : TakesBatch s.slots.version (sealed_set (seen s)) s.slots.journal.staged (coming (seen s))
  pub len : length s.slots.journal.staged ≡ batch_len (record { first = first; changes = s.staged })
  pub fits : length s.slots.journal.staged + FRAME ≤ room s.slots.journal
  pub early : IsEarly s.slots.step
  pub ready : IsReadyFor s.slots s.slots.journal.staged
  pub beside : FitsBeside s.slots s.slots.journal.staged

-- what the other slot is to hold spells the sealed set, and begins with its head and an image
pub record IsPlan {D : Type 0} (size : ℕ) (s : Inside D) : Type 0 where
  pub spells : IsPlannedFor s.slots size (sealed_set (seen s))
  pub head : s.slots.head ≤ IMAGE_PLACE + size / 2
  pub front : s.slots.head ≤ length s.slots.text

-- the set is behind by the edits that are ahead of it
pub record IsSound {D : Type 0} (honest : D → Type 0) (unsynced : D → PendingState)
    (s : Inside D) (set : State) (first : ℕ) (ahead copies : List Change) : Type 0 where
  pub set_is : after_all set ahead ≡ sealed_set (seen s)
  pub follows : Follows set ahead
  pub going : (s.slots.journal.phase ≡ journal_phase s.phase) ⊎ (s.slots.journal.phase ≡ Failed)
  pub flight : ((s.phase ≡ Idle) × (s.slots.journal.begun ≡ false)) ⊎ IsFlight s first ahead copies
  pub size : ℕ
  pub placed : IsPlaced size s.slots s.store.start.limit
  pub kept_is : honest s.slots.journal.disk
      → IsKeptIn (unsynced s.slots.journal.disk) s.slots size (sealed_set (seen s))
  pub planned : HasBegun s.slots.step → IsPlan size s
