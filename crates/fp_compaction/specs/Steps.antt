-- A compaction step by step: which follows which, what each calls, leaves and keeps.
use Rattle.std.specs.Prelude.{◌≡◌, ◌<◌, ◌≤◌, ◌+◌, ◌-◌, ◌^◌, ℕ, Bool, true, false, List, [], ◌∷◌}
use Rattle.std.specs.Prelude.{◌≢◌, ◌++◌, if◌then◌else◌, length, nat_lt, Result, OnOk, OnErr}
use Rattle.fp_disk.specs.Crashes.{SameHonesty}
use Rattle.fp_disk.specs.Outcomes.{IsOutcome, LeavesOnly}
use Rattle.fp_disk.specs.declared.disk.Disk.{Ghosts}
use Rattle.fp_disk.specs.declared.disk.DiskFault.{DiskFault}
use Rattle.fp_disk.specs.declared.history.CallKind.{CallKind}
use Rattle.fp_disk.specs.declared.history.CallKind.TheVariants.{Sync, Write}
use Rattle.fp_edit.specs.Flags.{State}
use Rattle.fp_documents.specs.Numbers.{IMAGE_HEAD}
use Rattle.fp_journal.specs.Chain.{with_gate}
use Rattle.fp_journal.specs.State.{IsOnWay, has_begun, room}
use Rattle.fp_journal.specs.declared.journal.Phase.TheVariants.{Idle, GateOpened, Failed}
use Rattle.fp_recovery.specs.Room.{HasNoRoom, IsFull}
use Rattle.fp_recovery.specs.Stands.{StandsFor}
use Rattle.fp_slots.specs.State.{SlotsState, SameSlots}
use Rattle.fp_slots.specs.Numbers.{IMAGE_PLACE, PART, VERSION}
use Rattle.fp_record.specs.Group.{Group}
use Rattle.fp_slots.specs.declared.slots.Step.{Step}
use Rattle.fp_slots.specs.declared.slots.Step.TheVariants.{Begin, Close, SyncClose, Part, Tail}
use Rattle.fp_slots.specs.declared.slots.Step.TheVariants.{SyncBody, Open, SyncOpen}
use Rattle.fp_compaction.specs.Batches.{LeadsTo}
use Rattle.fp_compaction.specs.Sets.{IsKeptIn, IsPlannedFor, IsTaken, LeavesSet}

-- the step behind this one, while so many bytes of head and image are left
abbrev pub next_step : Step → ℕ → Step
next_step Begin left = Close
next_step Close left = SyncClose
next_step SyncClose left = Part
next_step Part left = if nat_lt PART left then Part else Tail
next_step Tail left = SyncBody
next_step SyncBody left = Open
next_step Open left = SyncOpen
next_step SyncOpen left = Begin

-- how many bytes of head and image are left behind a step,
-- where one runs: a Part writes one part of them
abbrev pub next_left : Step → ℕ → ℕ
next_left Begin left = left
next_left Close left = left
next_left SyncClose left = left
next_left Part left = left - PART
next_left Tail left = left
next_left SyncBody left = left
next_left Open left = left
next_left SyncOpen left = left

-- the calls of the disk that it makes; a gate that is closed already isn't closed again
abbrev pub calls_of : Step → Bool → List CallKind
calls_of Begin may_open = []
calls_of Close may_open = if may_open then Write ∷ [] else []
calls_of SyncClose may_open = Sync ∷ []
calls_of Part may_open = Write ∷ []
calls_of Tail may_open = Write ∷ []
calls_of SyncBody may_open = Sync ∷ []
calls_of Open may_open = Write ∷ []
calls_of SyncOpen may_open = Sync ∷ []

-- from this step on the other slot may rule
abbrev pub IsLate : Step → Type 0
IsLate Begin = ⊥
IsLate Close = ⊥
IsLate SyncClose = ⊥
IsLate Part = ⊥
IsLate Tail = ⊥
IsLate SyncBody = ⊥
IsLate Open = Unit {0}
IsLate SyncOpen = Unit {0}

-- there is a generation behind the present one, where none runs,
-- and no batch is on its way at the tail
pub record MayStep {D : Type 0} (slots : SlotsState D) : Type 0 where
  pub next : slots.step ≡ Begin → slots.generation + 1 < 2 ^ 64
  pub still : slots.step ≡ Tail → IsOnWay slots.journal.phase → ⊥

-- the image of the set has room in the other slot
pub record HasImageRoom {D : Type 0} (slots : SlotsState D) (s : State) : Type 0 where
  pub least : IMAGE_HEAD ≤ s.limit
  pub short : s.limit < 2 ^ 32
  pub wide : slots.other.start + IMAGE_PLACE + s.limit < slots.other.stop

-- What a step leaves at each moment: the kept set, or what a batch makes of it whose gate was
-- begun. It asks that the other slot is to hold the kept set from where it may rule
abbrev pub LeavesStep : {D : Type 0} → Ghosts D → SlotsState D → SlotsState D → Type 0
LeavesStep disk old new = disk.honest old.journal.disk → (size : ℕ) (s t : State)
    → IsKeptIn (disk.unsynced old.journal.disk) old size s → IsTaken old size s t
    → (IsLate old.step → IsPlannedFor old size s)
    → LeavesOnly disk.moment disk.crash_states_since old.journal.disk new.journal.disk
    (LeavesSet old.journal s t)

-- and what was kept is kept, in the one slot or the other
abbrev pub KeepsStep : {D : Type 0} → Ghosts D → SlotsState D → SlotsState D → Type 0
KeepsStep disk old new = disk.honest old.journal.disk → (size : ℕ) (s : State)
    → IsKeptIn (disk.unsynced old.journal.disk) old size s
    → (IsLate old.step → IsPlannedFor old size s)
    → IsKeptIn (disk.unsynced new.journal.disk) new size s

-- all of it, and the calls
pub record TakesStep {D : Type 0} (disk : Ghosts D) (old new : SlotsState D) : Type 0 where
  -- H: any crash state at any moment stands for the kept set, or, with its gate begun, for what the
  -- batch on its way makes of it. From `Open` on this wants that the other slot is to hold that
  -- set.
  pub stands : LeavesStep disk old new
  -- H: the set that was kept is kept, in the one slot or the other. From `Open` on this wants that
  -- the other slot is to hold it.
  pub kept : KeepsStep disk old new
  -- The disk is honest after it exactly if it was before.
  pub honest : SameHonesty disk old.journal.disk new.journal.disk
  -- The calls of the step, also at a fault: a write at `Close`, if the gate counts as open, `Part`,
  -- `Tail` and `Open`; a sync at the others; none at `Begin`.
  pub called : disk.calls new.journal.disk
      ≡ disk.calls old.journal.disk ++ calls_of old.step old.may_open

-- ---- what becomes of the slots
-- nothing but the step and what is left of the image
pub record Stays {D : Type 0} (old new : SlotsState D) : Type 0 where
  pub slots : SameSlots old new
  pub phase : new.journal.phase ≡ old.journal.phase

-- the other slot is to hold head and image, and a batch on its way is kept ready to go behind them
pub record StartsImage {D : Type 0} (image limit : ℕ) (old new : SlotsState D) : Type 0 where
  pub journal : new.journal ≡ old.journal
  pub other : new.other ≡ old.other
  pub generation : new.generation ≡ old.generation
  pub version : new.version ≡ old.version
  pub may_open : new.may_open ≡ old.may_open
  pub head : new.head ≡ IMAGE_PLACE + image
  pub left : new.left + 1 ≡ new.head
  pub short : image ≤ limit
  pub text : length new.text ≡ new.head
  pub ready : IsOnWay old.journal.phase → new.coming ≡ with_gate old.journal.staged

-- the slots are turned, the gate of the one that ruled may be open, all room behind the text that the
-- other one was to hold is there, and that one is of the version of all that is written
pub record Turns {D : Type 0} (old new : SlotsState D) : Type 0 where
  pub mine : new.journal.slot ≡ old.other
  pub its : new.other ≡ old.journal.slot
  pub generation : new.generation ≡ old.generation + 1
  pub version : new.version ≡ VERSION
  pub may_open : new.may_open ≡ true
  pub still : old.journal.phase ≡ Idle
  pub phase : new.journal.phase ≡ Idle
  pub begun : new.journal.begun ≡ false
  pub room : room new.journal ≡ old.other.stop - (old.other.start + length old.text)

-- the device failed: nothing else is other than before
pub record BreaksOff {D : Type 0} (faults : D → ℕ) (old new : SlotsState D) : Type 0 where
  pub slots : SameSlots old new
  pub left : new.left ≡ old.left
  pub failed : new.journal.phase ≡ Failed
  pub cause : faults old.journal.disk < faults new.journal.disk

-- A step of a compaction that runs is taken, and the one behind it is next: the slots stay, or the
-- last one turns them. Or the device failed, and the step is still to be taken
pub record StepsOn {D T : Type 0} (disk : Ghosts D) (old new : SlotsState D)
    (result : Result T DiskFault) : Type 0 where
  -- What it leaves, what it keeps, and its calls, as of `take_step`.
  pub taken : TakesStep disk old new
  -- `Ok`: the step that follows is next, a `Part` for each 65,536 bytes begun of head and image; a
  -- fault: the same step.
  pub step : OnOk result (new.step ≡ next_step old.step old.left)
      × OnErr result (new.step ≡ old.step)
  -- `Ok`: by a `Part` what is left of head and image falls by 65,536 bytes, or to none; by another
  -- step it stays.
  pub left : OnOk result (new.left ≡ next_left old.step old.left)
  -- `Ok`, but for the last step: nothing but the step and what is left changed.
  pub stays : OnOk result (old.step ≢ SyncOpen → Stays old new)
  -- `Ok`, at the last step: the slots are turned, under the next generation and version 2; the gate
  -- of the one that ruled counts as open, and the room is what lies behind the planned text.
  pub turned : OnOk result (old.step ≡ SyncOpen → Turns old new)
  -- `Ok`: no call of the disk failed.
  pub no_failure : OnOk result (disk.faults new.journal.disk ≡ disk.faults old.journal.disk)
  -- A fault: a call of the disk failed, so the journal has failed; nothing else changed.
  pub broken : OnErr result (BreaksOff disk.faults old new)

-- ---- what a crash leaves now, and what a read gives
abbrev pub LeavesNow : {D : Type 0} → Ghosts D → SlotsState D → Type 0
LeavesNow disk slots = disk.honest slots.journal.disk → (size : ℕ) (s t : State)
    → IsKeptIn (disk.unsynced slots.journal.disk) slots size s → IsTaken slots size s t
    → (IsLate slots.step → IsPlannedFor slots size s)
    → (c : List ℕ) → IsOutcome (disk.unsynced slots.journal.disk) c → LeavesSet slots.journal s t c

-- once the gate of the batch on its way is open, what that makes of the set
abbrev pub ReadsNext : {D : Type 0} → Ghosts D → SlotsState D → Type 0
ReadsNext disk slots = disk.honest slots.journal.disk → slots.journal.phase ≡ GateOpened
    → (size : ℕ) (s t : State) → IsKeptIn (disk.unsynced slots.journal.disk) slots size s
    → LeadsTo slots size s t → StandsFor (disk.bytes slots.journal.disk) t

-- where none runs, no gate was begun, and the slot that rules has no room for a batch: neither has
-- whatever a crash leaves, and that is of the same generation
abbrev pub IsFullNow : {D : Type 0} → Ghosts D → SlotsState D → Type 0
IsFullNow disk slots = disk.honest slots.journal.disk → slots.step ≡ Begin
    → has_begun slots.journal.phase slots.journal.begun ≡ false → (size : ℕ) (s : State)
    → IsKeptIn (disk.unsynced slots.journal.disk) slots size s → (group : Group)
    → HasNoRoom slots.journal.slot.most (room slots.journal) slots.version group
    → IsFull (disk.unsynced slots.journal.disk) s group slots.generation
