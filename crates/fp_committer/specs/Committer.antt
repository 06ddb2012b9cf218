-- A store, a desk, and what is between them.
use Rattle.std.specs.Prelude.{◌≡◌, ◌≤◌, ◌+◌, ℕ, false, List, [], ◌∷◌, ◌++◌, length}
use mathlib.Core.List.{IsPrefix}
use Rattle.fp_disk.specs.Crashes.{AtAnyMoment, EachCrash, SameHonesty}
use Rattle.fp_disk.specs.declared.disk.Disk.{Ghosts}
use Rattle.fp_disk.specs.declared.history.CallKind.{CallKind}
use Rattle.fp_disk.specs.declared.history.CallKind.TheVariants.{Sync, Write}
use Rattle.fp_record.specs.Group.{Group}
use Rattle.fp_group_commit.specs.Store.{StoreState}
use Rattle.fp_desk.specs.Desk.{DeskState, IsNewDraw, TicketState, log, settled_revision}
use Rattle.fp_committer.specs.Commits.{Commits, CommitStep, accepted_by, all_settled, told_after}
use Rattle.fp_committer.specs.Halves.{ArePair, HalfState}
use Rattle.fp_committer.specs.Kept.{KeptFrom}
use Rattle.fp_committer.specs.StoreHalf.{MakesOfCompaction, MakesOne, RisesFor, StoreHalfState}
use Rattle.fp_committer.specs.Way.{Progress, batch_drawn, batch_sealed, nothing_drawn}
use Rattle.fp_committer.specs.declared.event.Answer.{Answer}
use Rattle.fp_committer.specs.declared.event.Event.{Event}
use Rattle.fp_committer.specs.declared.event.Event.TheVariants as event

-- ---- the desk's half, and both
pub record DeskHalfState : Type 0 where
  pub desk : DeskState
  pub half : HalfState

-- its lists are those of the desk
abbrev pub IsListed : DeskState → HalfState → Type 0
IsListed d half = (half.settled ≡ d.settled) × (half.all ≡ d.settled ++ d.drawn)

-- they are the halves of one committer
pub record AreHalves {D : Type 0} (a : DeskHalfState) (b : StoreHalfState D) : Type 0 where
  pub pair : ArePair a.half b.half
  pub same : b.store.store ≡ a.desk.store

-- and agree on what is drawn and settled
abbrev pub Agree : {D : Type 0} → DeskHalfState → StoreHalfState D → Type 0
Agree a b = (b.half.settled ≡ a.desk.settled) × (b.drawn ≡ a.desk.drawn)

-- a batch of so many edits was drawn
pub record HaveDrawn {D : Type 0} (a new_a : DeskHalfState) (b new_b : StoreHalfState D)
    (count : ℕ) : Type 0 where
  pub group : Group
  pub drawn : IsNewDraw a.desk new_a.desk group
  pub counted : count ≡ length group.changes
  pub half : new_a.half ≡ record a.half { all = a.half.all ++ group.changes }
  pub other : new_b ≡ record b {
    progress = batch_drawn;
    drawn = group.changes;
    half = record b.half { all = b.half.all ++ group.changes };
  }

-- all that was sealed is settled, up to this revision
pub record HaveSettled {D : Type 0} (a new_a : DeskHalfState) (b new_b : StoreHalfState D)
    (revision : ℕ) : Type 0 where
  pub was_sealed : b.progress ≡ batch_sealed
  pub revision_is : revision ≡ settled_revision a.desk + length a.desk.drawn
  pub settled : new_a.desk ≡ all_settled a.desk
  pub half : new_a.half ≡ record a.half { settled = a.half.settled ++ a.desk.drawn }
  pub other : new_b ≡ record b {
    progress = nothing_drawn;
    drawn = [];
    half = record b.half { settled = b.half.settled ++ a.desk.drawn };
  }

-- ---- a committer
pub record CommitterState (D : Type 0) : Type 0 where
  pub store : StoreState D
  pub desk : DeskState
  pub progress : Progress
  pub told : ℕ

-- the same without its disk
abbrev pub commits_of : {D : Type 0} → CommitterState D → Commits
commits_of w = record {
  desk = w.desk;
  progress = w.progress;
  failed = w.store.failed;
  most = w.store.most;
  room = w.store.room;
  told = w.told;
  compaction = w.store.compaction;
}

-- which events make a call
abbrev pub MakesItsCall : Event → Answer → (old new : List CallKind) → Type 0
MakesItsCall event.Stage a old new = MakesOne Write a old new
MakesItsCall event.SyncBody a old new = MakesOne Sync a old new
MakesItsCall event.OpenGate a old new = MakesOne Write a old new
MakesItsCall event.SyncGate a old new = MakesOne Sync a old new
MakesItsCall event.Compact a old new = MakesOfCompaction a old new
MakesItsCall _ a old new = new ≡ old

-- What an event leaves: the store and the desk are the same ones; each crash in it keeps what was
-- told before it, and each behind it what was told by then; and the device failed exactly where
-- that is answered
pub record KeepsTold {D : Type 0} (disk : Ghosts D) (old : CommitterState D) (answer : Answer)
    (new : CommitterState D) : Type 0 where
  -- What was told is the greater of what was told before and the revision of an `Acked`.
  pub told : new.told ≡ told_after old.told answer
  -- Store and desk are the same ones.
  pub same : (new.store.store ≡ old.store.store) × (new.desk.store ≡ old.desk.store)
  -- H: at any moment any crash state stands for the set after some first accepted edits, as many
  -- as were told before it or more.
  pub any_moment : AtAnyMoment disk old.store.disk new.store.disk
      (KeptFrom new.desk old.told)
  -- H: after it, as many as were told by then or more.
  pub exit : EachCrash disk new.store.disk (KeptFrom new.desk new.told)
  -- The disk is honest after it exactly if it was before.
  pub honest : SameHonesty disk old.store.disk new.store.disk
  -- The disk's count of failures rises exactly where `Device` is answered.
  pub cause : RisesFor answer (disk.faults old.store.disk) (disk.faults new.store.disk)

-- what an event changes: it is a step of the plain machine, the log grows by the accepted edit, what
-- was settled stays so, and it makes its call
pub record StepsBy {D : Type 0} (disk : Ghosts D) (old : CommitterState D) (e : Event) (a : Answer)
    (new : CommitterState D) : Type 0 where
  -- A step of the plain machine: which answer the event gets, in both directions, and what it
  -- changes. At a compaction's end the room is a slot's bytes less those of its head, the image
  -- of the set that was sealed as it began, and the batches sealed since.
  pub steps : CommitStep (commits_of old) e a (commits_of new)
  -- The log grows by the edit that was answered by a ticket, and by nothing else.
  pub log : log new.desk ≡ log old.desk ++ accepted_by e a
  -- What was settled stays.
  pub settled : IsPrefix old.desk.settled new.desk.settled
  -- H: a crash at any moment keeps all that was told before it, and one after it all that was
  -- told by then. The disk's failures rise exactly where `Device` is answered.
  pub kept : KeepsTold disk old a new
  -- At most one call of the disk, of one kind for each event but `Compact`: `Stage` and
  -- `OpenGate` write, `SyncBody` and `SyncGate` sync. None of the others, and none where it isn't
  -- the event's turn.
  pub called : MakesItsCall e a (disk.calls old.store.disk) (disk.calls new.store.disk)

-- ---- the invariant
-- the tickets are for these revisions and the next ones
abbrev pub NumberedFrom : ℕ → List TicketState → Type 0
NumberedFrom n [] = Unit {0}
NumberedFrom n (t ∷ tickets) = (t.revision ≡ n) × NumberedFrom (n + 1) tickets

pub record IsCommitter {D : Type 0} (a : DeskHalfState) (b : StoreHalfState D)
    (tickets : List TicketState) (start told : ℕ) : Type 0 where
  pub halves : AreHalves a b
  pub agree : Agree a b
  pub low : told ≤ settled_revision a.desk
  pub open_desk : a.desk.stopped ≡ false
  pub start_is : start ≡ a.desk.store.start.revision
  pub numbered : NumberedFrom (start + 1) tickets
  pub counted : length tickets ≡ length (log a.desk)

-- nothing is asked of it yet
pub record IsNewCommitter {D : Type 0} (s : StoreState D) (w : CommitterState D) : Type 0 where
  pub store : w.store ≡ s
  pub identity : w.desk.store ≡ s.store
  pub log : log w.desk ≡ []
  pub progress : w.progress ≡ nothing_drawn
  pub told : w.told ≡ s.store.start.revision
