-- Batches beside a compaction: room for one, what it leaves, and the plan that it joins.
use Rattle.std.specs.Prelude.{◌≡◌, ◌⊎◌, ◌<◌, ◌≤◌, ◌+◌, ◌-◌, ◌/◌, ℕ, List, ◌∷◌, ◌++◌, length}
use Rattle.fp_disk.specs.Outcomes.{LeavesOnly}
use Rattle.fp_disk.specs.declared.disk.Disk.{Ghosts}
use Rattle.fp_edit.specs.Flags.{State}
use Rattle.fp_gate.specs.Numbers.{OPEN}
use Rattle.fp_journal.specs.Chain.{with_length, with_gate}
use Rattle.fp_journal.specs.State.{room}
use Rattle.fp_journal.specs.Numbers.{FRAME}
use Rattle.fp_layout.specs.Size.{most_in}
use Rattle.fp_recovery.specs.Stands.{StandsFor, TakesBatch}
use Rattle.fp_slots.specs.State.{SlotsState, HasBegun, IsEarly, IsGrowing}
use Rattle.fp_compaction.specs.Sets.{IsKeptIn, IsPlannedFor}

-- the bytes behind the image that the other slot is to hold:
-- batches, each with its gate and its length
abbrev pub tail_of : {D : Type 0} → SlotsState D → ℕ
tail_of slots = length slots.text - slots.head

-- A body of n bytes is as short as its slot takes and fits behind the last closed gate with its
-- gate, its length and the gate behind it. While a compaction runs its tail isn't written yet, and
-- with this body and a last gate it takes a quarter of a slot at most
pub record HasRoomFor {D : Type 0} (slots : SlotsState D) (n : ℕ) : Type 0 where
  pub short : n ≤ slots.journal.slot.most
  pub fits : n + FRAME ≤ room slots.journal
  pub early : IsEarly slots.step
  pub tail : HasBegun slots.step
      → tail_of slots + n + FRAME ≤ (slots.other.stop - slots.other.start) / 4

-- while a compaction can take it, the body is kept ready to join what the other slot is to hold
abbrev pub IsReadyFor : {D : Type 0} → SlotsState D → List ℕ → Type 0
IsReadyFor slots body = IsGrowing slots.step → slots.coming ≡ with_gate body

-- and then fits there
abbrev pub FitsBeside : {D : Type 0} → SlotsState D → List ℕ → Type 0
FitsBeside slots body = IsGrowing slots.step
    → slots.other.start + length (slots.text ++ OPEN ∷ with_length body) < slots.other.stop

-- ---- what a call leaves
-- at each moment the set is kept
abbrev pub LeavesSealed : {D : Type 0} → Ghosts D → SlotsState D → SlotsState D → Type 0
LeavesSealed disk old new = disk.honest old.journal.disk → (size : ℕ) (s : State)
    → IsKeptIn (disk.unsynced old.journal.disk) old size s
    → LeavesOnly disk.moment disk.crash_states_since old.journal.disk new.journal.disk
    (λ c. StandsFor c s)

-- the batch on its way leads from this set to that one
abbrev pub LeadsTo : {D : Type 0} → SlotsState D → ℕ → State → State → Type 0
LeadsTo slots size s t =
    TakesBatch slots.version s slots.journal.staged t
    × (length slots.journal.staged ≤ most_in size)

-- at each moment the set is kept, or what the batch on its way makes of it
abbrev pub LeavesNext : {D : Type 0} → Ghosts D → SlotsState D → SlotsState D → Type 0
LeavesNext disk old new = disk.honest old.journal.disk → (size : ℕ) (s t : State)
    → IsKeptIn (disk.unsynced old.journal.disk) old size s → LeadsTo old size s t
    → LeavesOnly disk.moment disk.crash_states_since old.journal.disk new.journal.disk
    (λ c. StandsFor c s ⊎ StandsFor c t)

-- what the batch on its way makes of the set is kept now
abbrev pub KeepsNext : {D : Type 0} → Ghosts D → SlotsState D → SlotsState D → Type 0
KeepsNext disk old new = disk.honest old.journal.disk → (size : ℕ) (s t : State)
    → IsKeptIn (disk.unsynced old.journal.disk) old size s → LeadsTo old size s t
    → IsKeptIn (disk.unsynced new.journal.disk) new size t

-- and the other slot is to hold that too
abbrev pub PlansNext : {D : Type 0} → SlotsState D → SlotsState D → Type 0
PlansNext old new = IsGrowing old.step → (size : ℕ) (s t : State) → IsPlannedFor old size s
    → LeadsTo old size s t → IsPlannedFor new size t
