-- The store's half of a committer: the store, and the batch that was drawn for it.
use Rattle.std.specs.Prelude.{◌≡◌, ◌≢◌, ◌⊎◌, ◌<◌, ◌≤◌, ◌+◌, ℕ, Bool, true, false, List, [], ◌∷◌}
use Rattle.std.specs.Prelude.{◌++◌, length}
use Rattle.fp_disk.specs.Crashes.{AtAnyMoment, EachCrash, SameHonesty}
use Rattle.fp_disk.specs.History.{MakesSome}
use Rattle.fp_disk.specs.Outcomes.{PendingState, IsOutcome}
use Rattle.fp_disk.specs.declared.disk.Disk.{Ghosts}
use Rattle.fp_disk.specs.declared.history.CallKind.{CallKind}
use Rattle.fp_edit.specs.Edits.{Change}
use Rattle.fp_record.specs.Numbers.{MOST_EDITS}
use Rattle.fp_group_commit.specs.Changes.{GoesOn}
use Rattle.fp_group_commit.specs.Store.{Leaves, StoreState, sealed_set}
use Rattle.fp_group_commit.specs.declared.phase.Phase.{Phase}
use Rattle.fp_group_commit.specs.declared.phase.Phase.TheVariants.{Idle, Staged, BodySynced}
use Rattle.fp_group_commit.specs.declared.phase.Phase.TheVariants.{GateOpened}
use Rattle.fp_group_commit.specs.declared.fault.StoreFault.TheVariants as fault
use Rattle.fp_committer.specs.Halves.{HalfState}
use Rattle.fp_committer.specs.Kept.{KeptOf}
use Rattle.fp_committer.specs.Way.{Progress, Taken, Way}
use Rattle.fp_committer.specs.Way.{nothing_drawn, batch_drawn, batch_staged, body_synced}
use Rattle.fp_committer.specs.Way.{gate_opened, batch_sealed}
use Rattle.fp_committer.specs.declared.event.Answer.{Answer}
use Rattle.fp_committer.specs.declared.event.Answer.TheVariants as answer
use Rattle.fp_committer.specs.declared.held.Held.{Held}
use Rattle.fp_committer.specs.declared.held.Held.TheVariants as held

-- the store, how far the batch is that was drawn, its changes, and what the half lists
pub record StoreHalfState (D : Type 0) : Type 0 where
  pub store : StoreState D
  pub progress : Progress
  pub drawn : List Change
  pub half : HalfState

-- a store at a point of a batch's way, without its disk
abbrev pub way_at : {D : Type 0} → StoreState D → Progress → Way
way_at s progress = record {
  progress = progress;
  failed = s.failed;
  most = s.most;
  room = s.room;
  compaction = s.compaction;
}

abbrev pub way_by : {D : Type 0} → StoreHalfState D → Way
way_by h = way_at h.store h.progress

-- what was drawn for it, and what of it is settled
abbrev pub taken_by : {D : Type 0} → StoreHalfState D → Taken
taken_by h = record { start = h.store.store.start; settled = h.half.settled; drawn = h.drawn }

-- bytes stand for the set after some first edits that were drawn, among them all that are settled
abbrev pub KeptBy : {D : Type 0} → StoreHalfState D → List ℕ → Type 0
KeptBy h c = KeptOf h.store.store.start h.half.all
    (h.store.store.start.revision + length h.half.settled) c

-- ---- how far the batch is, by where it is held and the store's phase
abbrev pub in_flight_at : Phase → Progress
in_flight_at Idle = batch_staged
in_flight_at Staged = batch_staged
in_flight_at BodySynced = body_synced
in_flight_at GateOpened = gate_opened

-- the phases of a batch in flight
abbrev pub is_in_flight : Phase → Bool
is_in_flight Idle = false
is_in_flight Staged = true
is_in_flight BodySynced = true
is_in_flight GateOpened = true

abbrev pub progress_of : Held → Phase → Progress
progress_of held.Nothing phase = nothing_drawn
progress_of (held.Drawn group) phase = batch_drawn
progress_of held.InFlight phase = in_flight_at phase
progress_of (held.Sealed receipt) phase = batch_sealed

-- its changes
abbrev pub changes_held : {D : Type 0} → Held → StoreState D → List Change
changes_held held.Nothing s = []
changes_held (held.Drawn group) s = group.changes
changes_held held.InFlight s = s.staged
changes_held (held.Sealed receipt) s = receipt.batch.changes

-- ---- calls of the disk
-- one call of this kind is made where the event is done, and none elsewhere; where the device
-- failed it is the one that failed
abbrev pub MakesOne : CallKind → Answer → (old new : List CallKind) → Type 0
MakesOne kind answer.Done old new = new ≡ old ++ kind ∷ []
MakesOne kind (answer.Sealed revision) old new = new ≡ old ++ kind ∷ []
MakesOne kind (answer.Fault fault.Device) old new = MakesSome (kind ∷ []) old new
MakesOne kind _ old new = new ≡ old

-- one call at most
abbrev pub MakesNoMore : (old new : List CallKind) → Type 0
MakesNoMore old new = (new ≡ old) ⊎ ((kind : CallKind) × (new ≡ old ++ kind ∷ []))

-- where a step of a compaction is taken, or the device failed
abbrev pub MakesOfCompaction : Answer → (old new : List CallKind) → Type 0
MakesOfCompaction (answer.Phase next) old new = MakesNoMore old new
MakesOfCompaction (answer.Fault fault.Device) old new = MakesNoMore old new
MakesOfCompaction _ old new = new ≡ old

-- the disk's count of failures rose exactly where that is answered
abbrev pub RisesFor : Answer → (before now : ℕ) → Type 0
RisesFor (answer.Fault fault.Device) before now = before < now
RisesFor _ before now = now ≡ before

-- nobody is told a revision by that
abbrev pub IsSilent : Answer → Type 0
IsSilent (answer.Acked revision) = ⊥
IsSilent _ = Unit {0}

-- ---- what an event of the store leaves
-- what was drawn stays, and what the half lists; each crash in it and behind it keeps all that is
-- settled; nobody is told of it; and the device failed exactly where that is answered
pub record KeepsHalf {D : Type 0} (disk : Ghosts D) (old : StoreHalfState D) (answer : Answer)
    (new : StoreHalfState D) : Type 0 where
  -- The answer acknowledges no revision.
  pub silent : IsSilent answer
  -- What is drawn, what the half lists and which store it is stay.
  pub same : (new.half ≡ old.half) × (new.drawn ≡ old.drawn)
      × (new.store.store ≡ old.store.store)
  -- H: any crash state at any moment stands for the set after some first edits that were drawn,
  -- all that are settled among them.
  pub any_moment : AtAnyMoment disk old.store.disk new.store.disk (KeptBy new)
  -- H: so does any crash state after the call.
  pub exit : EachCrash disk new.store.disk (KeptBy new)
  -- The disk is honest after it exactly if it was before.
  pub honest : SameHonesty disk old.store.disk new.store.disk
  -- The disk's count of failures rises exactly where `Device` is answered.
  pub cause : RisesFor answer (disk.faults old.store.disk) (disk.faults new.store.disk)

-- ---- the invariant
-- where the batch is, behind what is settled
abbrev pub IsOut : {D : Type 0} → Held → StoreState D → List Change → Type 0
IsOut held.Nothing s settled = (s.phase ≡ Idle) × (s.sealed ≡ settled)
IsOut (held.Drawn group) s settled = (s.phase ≡ Idle) × (s.sealed ≡ settled)
    × (group.changes ≢ []) × GoesOn (sealed_set s) group × (length group.changes ≤ MOST_EDITS)
IsOut held.InFlight s settled = (is_in_flight s.phase ≡ true) × (s.sealed ≡ settled)
    × (s.staged ≢ [])
IsOut (held.Sealed receipt) s settled = (s.phase ≡ Idle)
    × (s.sealed ≡ settled ++ receipt.batch.changes) × (receipt.batch.changes ≢ [])
    × (receipt.store ≡ s.store)
    × (receipt.batch.first ≡ s.store.start.revision + length settled + 1)

pub record IsStoreHalf {D : Type 0} (honest : D → Type 0) (unsynced : D → PendingState)
    (held : Held) (s : StoreState D) (half : HalfState) : Type 0 where
  pub out : IsOut held s half.settled
  pub whole : half.all ≡ half.settled ++ changes_held held s
  pub now : honest s.disk → (c : List ℕ) → IsOutcome (unsynced s.disk) c → Leaves s c

-- ---- as it begins
-- nothing was drawn for it yet
abbrev pub new_half : {D : Type 0} → StoreState D → HalfState → StoreHalfState D
new_half s half = record { store = s; progress = nothing_drawn; drawn = []; half = half }
