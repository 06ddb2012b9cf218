-- The plain machine of a batch on its way, from where it is drawn to where it is sealed, and of a
-- compaction beside it. It has no disk.
use Rattle.std.specs.Prelude.{◌≡◌, ◌≢◌, ◌<◌, ◌≤◌, ◌+◌, ◌-◌, ◌*◌, ◌/◌, ◌^◌, ℕ, Bool, true, false}
use Rattle.std.specs.Prelude.{List, ◌++◌, length, if◌then◌else◌}
use Rattle.std.specs.List.{AllByRecursion}
use Rattle.fp_edit.specs.Edits.{Change}
use Rattle.fp_edit.specs.Flags.{State, size}
use Rattle.fp_edit.specs.Log.{after_all}
use Rattle.fp_journal.specs.Numbers.{BODY_PLACE, FRAME}
use Rattle.fp_record.specs.Encoding.{batch_len}
use Rattle.fp_record.specs.Group.{Group}
use Rattle.fp_record.specs.Numbers.{MOST_EDITS}
use Rattle.fp_recovery.specs.Stands.{IsAllowed}
use Rattle.fp_slots.specs.State.{HasBegun, IsEarly, IsGrowing}
use Rattle.fp_slots.specs.Numbers.{IMAGE_PLACE, VERSION}
use Rattle.fp_slots.specs.declared.slots.Step.TheVariants.{Begin, Tail, SyncOpen}
use Rattle.fp_compaction.specs.Steps.{next_left, next_step}
use Rattle.fp_group_commit.specs.Store.{Compaction}
use Rattle.fp_group_commit.specs.declared.fault.StoreFault.TheVariants as fault
use Rattle.fp_committer.specs.declared.event.Answer.{Answer}
use Rattle.fp_committer.specs.declared.event.Answer.TheVariants as answer

-- how far the drawn edits are on their way
pub data Progress : Type 0 where
  nothing_drawn : Progress
  batch_drawn : Progress
  batch_staged : Progress
  body_synced : Progress
  gate_opened : Progress
  batch_sealed : Progress

-- How far the drawn edits are, whether the device failed, the most bytes of a batch's body and
-- those left for batches, and how far a compaction is
pub record Way : Type 0 where
  pub progress : Progress
  pub failed : Bool
  pub most : ℕ
  pub room : ℕ
  pub compaction : Compaction

-- the set that all began with, what is settled since, and what is drawn behind that
pub record Taken : Type 0 where
  pub start : State
  pub settled : List Change
  pub drawn : List Change

-- the revision that the last settled edit made
abbrev pub settled_end : Taken → ℕ
settled_end t = t.start.revision + length t.settled

-- the batch that the drawn edits make
abbrev pub drawn_batch : Taken → Group
drawn_batch t = record { first = settled_end t + 1; changes = t.drawn }

-- The drawn edits wait to be written, make a batch, and there is room for it with its two gates.
-- While a compaction runs its tail isn't written yet, and with this batch and a last gate it takes
-- a quarter of a slot at most: half of one is what a set may take. Each has a place in a slot of
-- the version that rules
pub record CanStage (t : Taken) (w : Way) : Type 0 where
  pub drawn : w.progress ≡ batch_drawn
  pub few : length t.drawn ≤ MOST_EDITS
  pub short : batch_len (drawn_batch t) ≤ w.most
  pub room : batch_len (drawn_batch t) + FRAME ≤ w.room
  pub early : IsEarly w.compaction.next
  pub allowed : AllByRecursion (IsAllowed w.compaction.version) t.drawn
  pub tail : HasBegun w.compaction.next
      → w.compaction.tail + batch_len (drawn_batch t) + FRAME ≤ t.start.limit / 2

-- ---- from old, the machine may give this answer to an event and go on to new
-- A call of the disk that takes the drawn edits from one point of their way to the next, where it
-- may be made. A device that fails leaves them where they are; once it has failed nothing is done
abbrev pub Advances : (Way → Type 0) → Progress → Way → Answer → Way → Type 0
Advances May to old answer.Done new =
    (old.failed ≡ false) × May old × (new ≡ record old { progress = to })
Advances May to old (answer.Fault fault.Device) new =
    (old.failed ≡ false) × May old × (new ≡ record old { failed = true })
Advances May to old (answer.Fault fault.Failed) new = (old.failed ≡ true) × (new ≡ old)
Advances May to old answer.NotNow new = (old.failed ≡ false) × (May old → ⊥) × (new ≡ old)
Advances May to old _ new = ⊥

abbrev pub IsAt : Progress → Way → Type 0
IsAt point w = w.progress ≡ point

-- the drawn edits are written. Only this call takes memory
abbrev pub Stages : Taken → Way → Answer → Way → Type 0
Stages t old (answer.Fault fault.Memory) new =
    (old.failed ≡ false) × CanStage t old × (new ≡ old)
Stages t old a new = Advances (CanStage t) batch_staged old a new

-- the batch is made sure of
abbrev pub SyncsBody : Taken → Way → Answer → Way → Type 0
SyncsBody t old a new = Advances (IsAt batch_staged) body_synced old a new

-- its gate is opened
abbrev pub OpensGate : Taken → Way → Answer → Way → Type 0
OpensGate t old a new = Advances (IsAt body_synced) gate_opened old a new

-- its batch joins the tail of a compaction that can take it
abbrev pub Joins : Taken → Way → Way → Type 0
Joins t old new =
    (IsGrowing old.compaction.next → new.compaction.tail
    ≡ old.compaction.tail + batch_len (drawn_batch t) + BODY_PLACE)
    × ((IsGrowing old.compaction.next → ⊥) → new.compaction.tail ≡ old.compaction.tail)

-- all that is drawn is sealed. Its batch takes its bytes, a gate and its length
abbrev pub Seals : Taken → Way → Answer → Way → Type 0
Seals t old (answer.Sealed revision) new = (old.failed ≡ false) × (old.progress ≡ gate_opened)
    × (revision ≡ settled_end t + length t.drawn)
    × (new.room + batch_len (drawn_batch t) + BODY_PLACE ≡ old.room)
    × Joins t old new
    × (new ≡ record old {
      progress = batch_sealed;
      room = new.room;
      compaction = record old.compaction { tail = new.compaction.tail };
    })
Seals t old answer.Done new = ⊥
Seals t old a new = Advances (IsAt gate_opened) batch_sealed old a new

-- ---- a compaction
-- the drawn edits are sealed
abbrev pub is_sealed : Progress → Bool
is_sealed nothing_drawn = false
is_sealed batch_drawn = false
is_sealed batch_staged = false
is_sealed body_synced = false
is_sealed gate_opened = false
is_sealed batch_sealed = true

-- the drawn edits are in flight
abbrev pub is_flying : Progress → Bool
is_flying nothing_drawn = false
is_flying batch_drawn = false
is_flying batch_staged = true
is_flying body_synced = true
is_flying gate_opened = true
is_flying batch_sealed = false

-- the edits that are sealed
abbrev pub sealed_edits : Taken → Way → List Change
sealed_edits t w = if is_sealed w.progress then t.settled ++ t.drawn else t.settled

-- where none runs there is a generation more, and where the tail is next no batch is in flight
abbrev pub MayStep : Way → Type 0
MayStep w = (w.compaction.next ≡ Begin → w.compaction.generation + 1 < 2 ^ 64)
    × (w.compaction.next ≡ Tail → is_flying w.progress ≡ false)

-- One step of it. As it begins, an image of the sealed set is to be written, behind a head and all
-- but its gate. A Part writes one part of it. At the last step the next generation rules, of the
-- version of all that is written, and a slot's bytes, twice what a set may take, but for head,
-- image and tail are room; at each other the room stays
pub record Compacts (t : Taken) (old new : Way) : Type 0 where
  pub next : new.compaction.next ≡ next_step old.compaction.next old.compaction.left
  pub begun : old.compaction.next ≡ Begin → (new.compaction.head
      ≡ IMAGE_PLACE + size (after_all t.start (sealed_edits t old)).flags)
      × (new.compaction.left + 1 ≡ new.compaction.head) × (new.compaction.tail ≡ 0)
  pub left : old.compaction.next ≢ Begin
      → new.compaction.left ≡ next_left old.compaction.next old.compaction.left
  pub head : old.compaction.next ≢ Begin → old.compaction.next ≢ SyncOpen
      → new.compaction.head ≡ old.compaction.head
  pub tail : old.compaction.next ≢ Begin → old.compaction.next ≢ SyncOpen
      → new.compaction.tail ≡ old.compaction.tail
  pub stays : old.compaction.next ≢ SyncOpen
      → (new.compaction.generation ≡ old.compaction.generation)
      × (new.compaction.version ≡ old.compaction.version) × (new.room ≡ old.room)
  pub turns : old.compaction.next ≡ SyncOpen
      → (new.compaction.generation ≡ old.compaction.generation + 1)
      × (new.compaction.version ≡ VERSION) × (new.room
      ≡ 2 * t.start.limit - (old.compaction.head + old.compaction.tail))
  pub rest : new ≡ record old { room = new.room; compaction = new.compaction }

-- its next step is taken, where it may be. Only as one begins memory can be wanting
abbrev pub StepsOn : Taken → Way → Answer → Way → Type 0
StepsOn t old (answer.Phase next) new = (old.failed ≡ false) × MayStep old × Compacts t old new
    × (next ≡ new.compaction.next)
StepsOn t old (answer.Fault fault.Device) new =
    (old.failed ≡ false) × MayStep old × (new ≡ record old { failed = true })
StepsOn t old (answer.Fault fault.Failed) new = (old.failed ≡ true) × (new ≡ old)
StepsOn t old (answer.Fault fault.Memory) new =
    (old.failed ≡ false) × (old.compaction.next ≡ Begin) × MayStep old × (new ≡ old)
StepsOn t old answer.NotNow new = (old.failed ≡ false) × (MayStep old → ⊥) × (new ≡ old)
StepsOn t old _ new = ⊥

-- ---- what opening the disk gives, where no call of it failed
-- the drawn edits are read once their gate was opened
abbrev pub is_read : Progress → Bool
is_read nothing_drawn = false
is_read batch_drawn = false
is_read batch_staged = false
is_read body_synced = false
is_read gate_opened = true
is_read batch_sealed = true

abbrev pub read_edits : Taken → Way → List Change
read_edits t w = if is_read w.progress then t.settled ++ t.drawn else t.settled
