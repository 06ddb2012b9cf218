-- Two slots of a disk, as the set of flags that they keep.
use Rattle.std.specs.Prelude.{◌≡◌, ◌⊎◌, ◌≤◌, ◌+◌, ◌/◌, ℕ, true, List, length}
use Rattle.fp_disk.specs.Outcomes.{PendingState, LeavesOnly}
use Rattle.fp_disk.specs.declared.disk.Disk.{Ghosts}
use Rattle.fp_edit.specs.Flags.{State}
use Rattle.fp_journal.specs.Holds.{Holds, IsSynced}
use Rattle.fp_journal.specs.State.{JournalState, has_begun}
use Rattle.fp_layout.specs.Layout.{IsHeader}
use Rattle.fp_layout.specs.Numbers.{HEADER}
use Rattle.fp_layout.specs.Size.{IsSlotSize, Side, most_in, other_side, slot_of}
use Rattle.fp_layout.specs.declared.opening.Place.{Place}
use Rattle.fp_recovery.specs.Stands.{Spells, StandsFor, TakesBatch}
use Rattle.fp_slots.specs.State.{SlotsState, sealed_text}
use Rattle.fp_slots.specs.Numbers.{VERSION}

-- The slots are those of a disk whose header no crash takes away, and what is sealed in the one
-- that rules spells the set, as of the version of that slot
pub record IsKeptOn {D : Type 0} (u : PendingState) (slots : SlotsState D) (size : ℕ) (side : Side)
    (s : State) : Type 0 where
  pub header : List ℕ
  pub is_header : (c : List ℕ) → Holds c 0 header → HEADER + 1 + size ≤ length c → IsHeader c size
  pub header_long : length header ≡ HEADER
  pub firm : IsSynced u 0 header
  pub mine : slots.journal.slot ≡ slot_of size side
  pub its : slots.other ≡ slot_of size (other_side side)
  pub sealed : Spells size (sealed_text slots.journal) s
  pub version_is : sealed.version ≡ slots.version

-- the same, on one of a disk's two sides
abbrev pub IsKeptIn : {D : Type 0} → PendingState → SlotsState D → ℕ → State → Type 0
IsKeptIn u slots size s = (side : Side) × IsKeptOn u slots size side s

-- what the other slot is to hold spells the set too, as of the version of all that is written
abbrev pub IsPlannedFor : {D : Type 0} → SlotsState D → ℕ → State → Type 0
IsPlannedFor slots size s = (spells : Spells size slots.text s) × (spells.version ≡ VERSION)

-- the slots are the two of a disk whose slots have this size,
-- and half of one is what a set's image may take
pub record IsPlaced {D : Type 0} (size : ℕ) (slots : SlotsState D) (limit : ℕ) : Type 0 where
  pub allowed : IsSlotSize size
  pub side : Side
  pub mine : slots.journal.slot ≡ slot_of size side
  pub its : slots.other ≡ slot_of size (other_side side)
  pub half : limit ≡ size / 2

-- where a journal goes on: its slot, and the closed gate behind what is sealed
abbrev pub place_of : {D : Type 0} → JournalState D → Place
place_of j = record { slot = j.slot; gate = j.slot.start + length (sealed_text j) }

-- ---- a batch on its way
-- did a call begin to open its gate
abbrev pub IsOpening : {D : Type 0} → JournalState D → Type 0
IsOpening j = has_begun j.phase j.begun ≡ true

-- then it leads from this set to that one
abbrev pub IsTaken : {D : Type 0} → SlotsState D → ℕ → State → State → Type 0
IsTaken slots size s t = IsOpening slots.journal
    → TakesBatch slots.version s slots.journal.staged t
    × (length slots.journal.staged ≤ most_in size)

-- what a crash leaves: the set, and once a call began to open the gate of the batch on its way
-- perhaps what that makes of it
abbrev pub LeavesSet : {D : Type 0} → JournalState D → State → State → List ℕ → Type 0
LeavesSet j s t c = StandsFor c s ⊎ (IsOpening j × StandsFor c t)

-- ---- what a call leaves
-- at each moment of a call in which either slot may come to rule: both stand for one set
abbrev pub LeavesEither : {D : Type 0} → Ghosts D → SlotsState D → SlotsState D → Type 0
LeavesEither disk old new = disk.honest old.journal.disk → (size : ℕ) (s : State)
    → IsKeptIn (disk.unsynced old.journal.disk) old size s → IsPlannedFor old size s
    → LeavesOnly disk.moment disk.crash_states_since old.journal.disk new.journal.disk
    (λ c. StandsFor c s)

-- what was kept is kept
abbrev pub GoesOnKept : {D : Type 0} → Ghosts D → SlotsState D → SlotsState D → Type 0
GoesOnKept disk old new = disk.honest old.journal.disk → (size : ℕ) (s : State)
    → IsKeptIn (disk.unsynced old.journal.disk) old size s
    → IsKeptIn (disk.unsynced new.journal.disk) new size s
