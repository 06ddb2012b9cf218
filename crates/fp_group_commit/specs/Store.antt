-- A store: what it keeps, what is on its way, and what a crash may leave of it.
use Rattle.std.specs.Prelude.{◌≡◌, ◌≢◌, ◌⊎◌, ◌<◌, ◌+◌, ◌-◌, ◌/◌, ◌^◌, Bool, true, false, List, []}
use Rattle.std.specs.Prelude.{◌++◌, ℕ}
use Rattle.std.specs.FinMap as map
use Rattle.fp_edit.specs.Edits.{Change}
use Rattle.fp_edit.specs.Flags.{State}
use Rattle.fp_edit.specs.Log.{after_all}
use Rattle.fp_journal.specs.declared.slot.Slot.{Slot}
use Rattle.fp_layout.specs.declared.opening.Place.{Place}
use Rattle.fp_recovery.specs.Stands.{StandsFor}
use Rattle.fp_slots.specs.declared.slots.Step.{Step}
use Rattle.fp_slots.specs.declared.slots.Step.TheVariants.{Begin, Tail}
use Rattle.fp_group_commit.specs.Tokens.{Identity}
use Rattle.fp_group_commit.specs.declared.phase.Phase.{Phase}
use Rattle.fp_group_commit.specs.declared.phase.Phase.TheVariants.{Idle, Staged, BodySynced}
use Rattle.fp_group_commit.specs.declared.phase.Phase.TheVariants.{GateOpened}

-- How far a compaction is: its next step (`Begin` where none runs), how many bytes head and image
-- have, how many of them no part wrote yet, how many the batches behind them have, and the
-- generation and the version of the slot that rules
pub record Compaction : Type 0 where
  pub next : Step
  pub head : ℕ
  pub left : ℕ
  pub tail : ℕ
  pub generation : ℕ
  pub version : ℕ

-- The edits sealed so far, and the batch on its way, where `phase` isn't Idle; `begun` says whether
-- opening its gate has begun: it was done, or failed. The disk that keeps them, and whether a call
-- of the device has `failed`. The most bytes of a batch's body, the bytes left for batches, and how
-- far a compaction is. The slot that rules and the closed gate behind what is sealed in it; the
-- other slot, and whether its gate may be open
pub record StoreState (D : Type 0) : Type 0 where
  pub store : Identity
  pub sealed : List Change
  pub staged : List Change
  pub phase : Phase
  pub begun : Bool
  pub disk : D
  pub failed : Bool
  pub most : ℕ
  pub room : ℕ
  pub compaction : Compaction
  pub place : Place
  pub other : Slot
  pub may_open : Bool

-- the set that is sealed, and the one that the batch on its way makes of it
abbrev pub sealed_set : {D : Type 0} → StoreState D → State
sealed_set s = after_all s.store.start s.sealed

abbrev pub coming : {D : Type 0} → StoreState D → State
coming s = after_all s.store.start (s.sealed ++ s.staged)

-- the gate in front of the batch on its way was opened
abbrev pub is_opened : Phase → Bool
is_opened Idle = false
is_opened Staged = false
is_opened BodySynced = false
is_opened GateOpened = true

-- what a crash may leave: the sealed edits, and once its gate may be open perhaps the whole batch
-- on its way, where there is one
abbrev pub Leaves : {D : Type 0} → StoreState D → List ℕ → Type 0
Leaves s c = StandsFor c (sealed_set s)
    ⊎ ((s.phase ≢ Idle) × (s.begun ≡ true) × StandsFor c (coming s))

-- what a read gives, where no call of the device failed:
-- once the gate is open, the batch on its way too
abbrev pub reached_at : Phase → State → State → State
reached_at Idle now then = now
reached_at Staged now then = now
reached_at BodySynced now then = now
reached_at GateOpened now then = then

abbrev pub readable_set : {D : Type 0} → StoreState D → State
readable_set s = reached_at s.phase (sealed_set s) (coming s)

-- ---- a store as it begins
-- It goes on from this set, with nothing sealed since and nothing on its way. A batch may take as
-- many bytes as its slot says, and what lies from the closed gate to the slot's end is left
pub record IsFresh {D : Type 0} (s : StoreState D) (set : State) : Type 0 where
  pub start : s.store.start ≡ set
  pub sealed : s.sealed ≡ []
  pub phase : s.phase ≡ Idle
  pub shut : s.begun ≡ false
  pub well : s.failed ≡ false
  pub none_runs : s.compaction.next ≡ Begin
  pub most : s.most ≡ s.place.slot.most
  pub room : s.room ≡ s.place.slot.stop - s.place.gate

-- nothing is on its way, and no call of the device has failed
abbrev pub IsAtRest : {D : Type 0} → StoreState D → Type 0
IsAtRest s = (s.phase ≡ Idle) × (s.failed ≡ false)

-- a step of a compaction may be taken: where none runs there is a generation more, and no batch is
-- on its way where the tail is next
pub record MayCompact {D : Type 0} (s : StoreState D) : Type 0 where
  pub next : s.compaction.next ≡ Begin → s.compaction.generation + 1 < 2 ^ 64
  pub still : s.compaction.next ≡ Tail → s.phase ≡ Idle

-- no flags, in slots of this size
abbrev pub new_set : ℕ → State
new_set size = record { flags = map.empty; revision = 0; limit = size / 2 }
