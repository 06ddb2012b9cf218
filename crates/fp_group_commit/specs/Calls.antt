-- What a call of a store changes, and why it wasn't done.
use Rattle.std.specs.Prelude.{◌≡◌, ◌≢◌, ◌<◌, ◌≤◌, ◌+◌, ◌-◌, ◌*◌, ◌^◌, ℕ, true, false, List}
use Rattle.std.specs.Prelude.{Result, IfErr, OnOk, OnErr}
use Rattle.fp_disk.specs.Crashes.{AtAnyMoment, EachCrash, SameHonesty}
use Rattle.fp_disk.specs.History.{Makes}
use Rattle.fp_disk.specs.declared.disk.Disk.{Ghosts}
use Rattle.fp_disk.specs.declared.history.CallKind.{CallKind}
use Rattle.fp_edit.specs.Flags.{State, size}
use Rattle.fp_compaction.specs.Steps.{next_left, next_step}
use Rattle.fp_slots.specs.Numbers.{IMAGE_PLACE, VERSION}
use Rattle.fp_slots.specs.State.{IsGrowing}
use Rattle.fp_slots.specs.declared.slots.Step.TheVariants.{Begin, SyncOpen}
use Rattle.fp_journal.specs.Numbers.{BODY_PLACE}
use Rattle.fp_record.specs.Group.{Group}
use Rattle.fp_record.specs.Encoding.{batch_len}
use Rattle.fp_group_commit.specs.Changes.{GoesOn}
use Rattle.fp_group_commit.specs.Store.{Leaves, StoreState, sealed_set}
use Rattle.fp_group_commit.specs.declared.fault.StoreFault.{StoreFault}
use Rattle.fp_group_commit.specs.declared.fault.StoreFault.TheVariants as fault
use Rattle.fp_group_commit.specs.declared.phase.Phase.{Phase}

-- These calls of the disk are made, or some first of them where the call fails. A crash at any
-- moment of it leaves what has P, and one behind it what the store leaves now; and the disk keeps
-- its word where it did before
pub record CallsDisk {D T E : Type 0} (disk : Ghosts D) (calls : List CallKind)
    (old new : StoreState D) (P : List ℕ → Type 0) (result : Result T E) : Type 0 where
  -- These calls of the disk are made, or some first ones of them where the call fails.
  pub called : Makes calls (disk.calls old.disk) (disk.calls new.disk) result
  -- H: any crash state at any moment stands for the sealed set or, once opening the gate has
  -- begun, perhaps for that with the batch on its way.
  pub any_moment : AtAnyMoment disk old.disk new.disk P
  -- H: so does any crash state after the call, in a failed store too.
  pub exit : EachCrash disk new.disk (Leaves new)
  -- The disk is honest after it exactly if it was before.
  pub honest : SameHonesty disk old.disk new.disk

abbrev pub SameStore : {D : Type 0} → StoreState D → StoreState D → Type 0
SameStore old new = (new.store ≡ old.store) × (new.sealed ≡ old.sealed) × (new.staged ≡ old.staged)

-- a batch may take as many bytes as before, as many are left for batches, a compaction is where it
-- was, and the other slot stays as it is
pub record SameRoom {D : Type 0} (old new : StoreState D) : Type 0 where
  pub most : new.most ≡ old.most
  pub room : new.room ≡ old.room
  pub compaction : new.compaction ≡ old.compaction
  pub other : new.other ≡ old.other
  pub may_open : new.may_open ≡ old.may_open

-- Of the bytes left the batch took those of its body, the number of its length and a gate, and as
-- many joined the tail of a compaction that can take it. All else of a compaction is where it was
pub record TakesRoom {D : Type 0} (old new : StoreState D) : Type 0 where
  pub most : new.most ≡ old.most
  pub room : new.room + batch_len (record { first = 0; changes = old.staged }) + BODY_PLACE
      ≡ old.room
  pub compaction : new.compaction ≡ record old.compaction { tail = new.compaction.tail }
  pub other : new.other ≡ old.other
  pub may_open : new.may_open ≡ old.may_open
  pub joins : IsGrowing old.compaction.next → new.compaction.tail
      ≡ old.compaction.tail + batch_len (record { first = 0; changes = old.staged }) + BODY_PLACE
  pub beside : (IsGrowing old.compaction.next → ⊥) → new.compaction.tail ≡ old.compaction.tail

-- the store goes on to this phase, and the device failed neither before nor in the call
pub record MovesTo {D : Type 0} (faults : D → ℕ) (to : Phase)
    (old new : StoreState D) : Type 0 where
  pub phase : new.phase ≡ to
  pub well_before : old.failed ≡ false
  pub well_now : new.failed ≡ false
  pub no_failure : faults new.disk ≡ faults old.disk

-- the device failed in the call; the store has failed now, with its phase and its room as before
pub record Breaks {D : Type 0} (faults : D → ℕ) (old new : StoreState D) : Type 0 where
  pub well_before : old.failed ≡ false
  pub failed : new.failed ≡ true
  pub cause : faults old.disk < faults new.disk
  pub phase : new.phase ≡ old.phase
  pub room : SameRoom old new

-- why a call that takes no memory wasn't done: the device failed in it, or had failed before
abbrev pub FailsBy : {D : Type 0} → (D → ℕ) → StoreState D → StoreState D → StoreFault → Type 0
FailsBy faults old new fault.Device = Breaks faults old new
FailsBy faults old new fault.Failed = (old.failed ≡ true) × (new ≡ old)
FailsBy faults old new fault.Memory = ⊥
FailsBy faults old new fault.Stranger = ⊥

-- The batch on its way goes on to this phase, or the call wasn't done and the store's phase is as
-- before; either way nothing is sealed, and the room and a compaction stay
pub record MovesOn {D T : Type 0} (faults : D → ℕ) (to : Phase) (old new : StoreState D)
    (result : Result T StoreFault) : Type 0 where
  -- What is sealed and what is on its way stay.
  pub same : SameStore old new
  -- `Ok`: the phase is the one that follows, and the device failed neither before nor in the
  -- call.
  pub ok : OnOk result (MovesTo faults to old new)
  -- `Err`: the phase is as before.
  pub phase : OnErr result (new.phase ≡ old.phase)
  -- `Device`: it failed in this call, and phase and room are as before. `Failed`: it had failed
  -- before, and nothing changed. There is no other fault.
  pub fault : IfErr result (FailsBy faults old new)
  -- What a batch may take, what is left for batches, the other slot and a compaction stay.
  pub same_room : SameRoom old new

-- why a batch wasn't staged
abbrev pub RefusesBy : {D : Type 0} → (D → ℕ) → StoreState D → StoreState D →
    Group → StoreFault → Type 0
RefusesBy faults old new group fault.Device = Breaks faults old new × GoesOn (sealed_set old) group
RefusesBy faults old new group fault.Failed = (old.failed ≡ true) × (new ≡ old)
RefusesBy faults old new group fault.Memory =
    (old.failed ≡ false) × (new ≡ old) × GoesOn (sealed_set old) group
RefusesBy faults old new group fault.Stranger =
    (old.failed ≡ false) × (new ≡ old) × (GoesOn (sealed_set old) group → ⊥)

-- what stands against a group before anything is written: want of memory only where it isn't strange
abbrev pub IsStrange : State → Group → StoreFault → Type 0
IsStrange s group fault.Device = ⊥
IsStrange s group fault.Failed = ⊥
IsStrange s group fault.Memory = GoesOn s group
IsStrange s group fault.Stranger = GoesOn s group → ⊥

-- ---- a step of a compaction
-- head and image of the sealed set are to be written, all but the gate, and no tail behind them yet
pub record PlansImage {D : Type 0} (old new : StoreState D) : Type 0 where
  pub head : new.compaction.head ≡ IMAGE_PLACE + size (sealed_set old).flags
  pub small : size (sealed_set old).flags ≤ old.store.start.limit
  pub left : new.compaction.left + 1 ≡ new.compaction.head
  pub tail : new.compaction.tail ≡ 0

-- It was taken, and the device failed neither before nor in the call. Head and image, what is left
-- of them and the tail are as long as before, but for a Part. At the last one the slots are turned:
-- it is the next generation, of the version of all that is written, and a slot's bytes, twice what a
-- set may take, but for head, image and tail are room. At each other the slots and the room stay
pub record Compacts {D : Type 0} (faults : D → ℕ) (old new : StoreState D) : Type 0 where
  -- The step that follows is the next one.
  pub next : new.compaction.next ≡ next_step old.compaction.next old.compaction.left
  -- What is left of the image falls by a part at a `Part`, and stays at each other step but the
  -- first.
  pub left : old.compaction.next ≢ Begin
      → new.compaction.left ≡ next_left old.compaction.next old.compaction.left
  -- The device hadn't failed before,
  pub well_before : old.failed ≡ false
  -- hasn't failed now,
  pub well_now : new.failed ≡ false
  -- and no call of the disk failed.
  pub no_failure : faults new.disk ≡ faults old.disk
  -- What a batch may take stays.
  pub most : new.most ≡ old.most
  -- At the first step the image of the sealed set is to be written behind a head, within what a
  -- set may take, and the tail is empty.
  pub begun : old.compaction.next ≡ Begin → PlansImage old new
  -- At each step between the first and the last head and image are as long as before,
  pub head_stays : old.compaction.next ≢ Begin → old.compaction.next ≢ SyncOpen
      → new.compaction.head ≡ old.compaction.head
  -- and so is the tail, which batches alone lengthen.
  pub tail_stays : old.compaction.next ≢ Begin → old.compaction.next ≢ SyncOpen
      → new.compaction.tail ≡ old.compaction.tail
  -- The generation is below 2^64.
  pub numbered : new.compaction.generation < 2 ^ 64
  -- At each step but the last the other slot, the generation, the version and what its gate
  -- counts as stay.
  pub slots_stay : old.compaction.next ≢ SyncOpen → (new.other ≡ old.other)
      × (new.compaction.generation ≡ old.compaction.generation)
      × (new.compaction.version ≡ old.compaction.version)
      × (new.may_open ≡ old.may_open)
  -- At the last step the slots are turned: the generation is the next one, the version is that of
  -- all that is written, and the other slot's gate counts as open.
  pub slots_turn : old.compaction.next ≡ SyncOpen → (new.other ≡ old.place.slot)
      × (new.compaction.generation ≡ old.compaction.generation + 1)
      × (new.compaction.version ≡ VERSION) × (new.may_open ≡ true)
  -- At each step but the last what is left for batches stays.
  pub room_stays : old.compaction.next ≢ SyncOpen → new.room ≡ old.room
  -- At the last step a slot's bytes, less those of head, image and tail, are left for batches.
  pub room_gained : old.compaction.next ≡ SyncOpen → new.room
      ≡ 2 * old.store.start.limit - (old.compaction.head + old.compaction.tail)

-- why a step wasn't taken. Memory can be wanting only as a compaction begins
abbrev pub StopsBy : {D : Type 0} → (D → ℕ) → StoreState D → StoreState D → StoreFault → Type 0
StopsBy faults old new fault.Device = Breaks faults old new
StopsBy faults old new fault.Failed = (old.failed ≡ true) × (new ≡ old)
StopsBy faults old new fault.Memory =
    (old.failed ≡ false) × (old.compaction.next ≡ Begin) × (new ≡ old)
StopsBy faults old new fault.Stranger = ⊥
