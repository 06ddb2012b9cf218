-- A store, its desk, and what is published of it, over one list of events.
use Rattle.std.specs.Prelude.{◌≡◌, ◌<◌, ◌≤◌, ℕ, List, [], ◌∷◌, ◌++◌, Result, Ok, Err, IfOk, IfErr}
use Rattle.fp_disk.specs.Crashes.{AtAnyMoment, EachCrash, SameHonesty}
use Rattle.fp_disk.specs.Outcomes.{IsOutcome}
use Rattle.fp_disk.specs.declared.disk.Disk.{Ghosts}
use Rattle.fp_disk.specs.declared.history.CallKind.TheVariants.{Length, Sync}
use Rattle.fp_edit.specs.Flags.{State}
use Rattle.fp_journal.specs.Pieces.{MakesThenReads}
use Rattle.fp_layout.specs.declared.fault.OpenFault.{OpenFault}
use Rattle.fp_layout.specs.declared.fault.OpenFault.TheVariants.{Device, Memory}
use Rattle.fp_group_commit.specs.Store.{StoreState}
use Rattle.fp_group_commit.specs.Tokens.{Identity, front_revision}
use Rattle.fp_desk.specs.Desk.{DeskState, log}
use Rattle.fp_stream.specs.declared.hello.Hello.{Hello}
use Rattle.fp_committer.specs.Committer.{CommitterState, IsNewCommitter, commits_of}
use Rattle.fp_committer.specs.Kept.{KeptFrom}
use Rattle.fp_world.specs.Events.{MakesItsCall, RisesFor, accepted_by, told_after}
use Rattle.fp_world.specs.Machine.{Machine, Step}
use Rattle.fp_world.specs.Views.{ViewsState}
use Rattle.fp_world.specs.declared.event.Answer.{Answer}
use Rattle.fp_world.specs.declared.event.Event.{Event}

pub record WorldState (D : Type 0) : Type 0 where
  pub committer : CommitterState D
  pub views : ViewsState

-- the world without its disk
abbrev pub machine : {D : Type 0} → WorldState D → Machine
machine w = record {
  commits = commits_of w.committer;
  published = front_revision w.views.board;
  seats = w.views.seats;
  readers = w.views.readers;
}

abbrev pub disk_of : {D : Type 0} → WorldState D → D
disk_of w = w.committer.store.disk

abbrev pub desk_of : {D : Type 0} → WorldState D → DeskState
desk_of w = w.committer.desk

abbrev pub told_of : {D : Type 0} → WorldState D → ℕ
told_of w = w.committer.told

-- ---- events, one after another
-- what an event changes, and what a crash leaves of the disk at each moment of it and after it
pub record StepsTo {D : Type 0} (disk : Ghosts D) (old : WorldState D) (e : Event) (a : Answer)
    (new : WorldState D) : Type 0 where
  pub steps : Step (machine old) e a (machine new)
  pub log : log (desk_of new) ≡ log (desk_of old) ++ accepted_by e a
  pub told : told_of new ≡ told_after (told_of old) a
  pub store : new.committer.store.store ≡ old.committer.store.store
  pub desk : (desk_of new).store ≡ (desk_of old).store
  pub any_moment : AtAnyMoment disk (disk_of old) (disk_of new)
      (KeptFrom (desk_of new) (told_of old))
  pub exit : EachCrash disk (disk_of new) (KeptFrom (desk_of new) (told_of new))
  pub honest : SameHonesty disk (disk_of old) (disk_of new)
  pub called : MakesItsCall e a (disk.calls (disk_of old)) (disk.calls (disk_of new))
  pub cause : RisesFor a (disk.faults (disk_of old)) (disk.faults (disk_of new))

-- each event was answered in its turn
abbrev pub Course : {D : Type 0} → Ghosts D → WorldState D → List Event → List Answer → WorldState D
    → Type 0
Course {D} disk old [] [] new = new ≡ old
Course {D} disk old (e ∷ events) (a ∷ answers) new =
    (mid : WorldState D) × StepsTo disk old e a mid × Course disk mid events answers new
Course {D} disk old [] (a ∷ answers) new = ⊥
Course {D} disk old (e ∷ events) [] new = ⊥

-- ---- opening a disk
-- the disk then, in the store or beside the fault
abbrev pub disk_after : {D : Type 0} → Result (StoreState D × Identity) (OpenFault × D) → D
disk_after (Ok r) = r.0.disk
disk_after (Err e) = e.1

-- What it leaves of the disk. The bytes stay, and a crash leaves what one could leave before; its
-- calls are a sync, the length, and reads; none failed where it opens or memory is wanting, and one
-- did where the fault is the device's
pub record Opens {D : Type 0} (disk : Ghosts D) (old : D)
    (result : Result (StoreState D × Identity) (OpenFault × D)) : Type 0 where
  -- H: the bytes stay.
  pub same : disk.honest old → disk.bytes (disk_after result) ≡ disk.bytes old
  -- H: any crash state at any moment is one from before.
  pub any_moment : AtAnyMoment disk old (disk_after result) (IsOutcome (disk.unsynced old))
  -- The disk is honest after it exactly if it was before.
  pub honest : SameHonesty disk old (disk_after result)
  -- The calls of the disk are a sync, the length, and reads; some first ones of these at an
  -- `Err`.
  pub called : MakesThenReads (Sync ∷ Length ∷ []) (disk.calls old)
      (disk.calls (disk_after result)) result
  -- `Ok`: no call of the disk failed.
  pub no_failure : IfOk result (λ r. disk.faults r.0.disk ≡ disk.faults old)
  -- `Device`: a call of the disk failed.
  pub cause : IfErr result (λ e. e.0 ≡ Device → disk.faults old < disk.faults e.1)
  -- `Memory`: no call of the disk failed.
  pub memory : IfErr result (λ e. e.0 ≡ Memory → disk.faults e.1 ≡ disk.faults old)

-- ---- a world as it begins
-- nothing is asked of it yet: the set that the store began with is published
pub record IsNewWorld {D : Type 0} (s : StoreState D) (hellos : List Hello) (evaluators : ℕ)
    (w : WorldState D) : Type 0 where
  pub committer : IsNewCommitter s w.committer
  pub board : w.views.board ≡ record { store = s.store; edits = [] }
  pub seats : w.views.seats ≡ hellos
  pub readers : w.views.readers ≡ evaluators
