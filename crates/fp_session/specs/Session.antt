-- A session of edits over the halves of a committer: what a crash may leave of it, and what it calls.
use Rattle.std.specs.Prelude.{◌≡◌, ◌⊎◌, ◌<◌, ◌≤◌, ◌+◌, ◌^◌, ℕ, Bool, false, List, [], ◌++◌, length}
use Rattle.fp_disk.specs.Crashes.{AtAnyMoment, EachCrash, SameHonesty}
use Rattle.fp_disk.specs.declared.disk.Disk.{Ghosts}
use Rattle.fp_edit.specs.Edits.{Change}
use Rattle.fp_edit.specs.Flags.{State}
use Rattle.fp_edit.specs.Log.{after_all}
use Rattle.fp_recovery.specs.Room.{IsFullFor}
use Rattle.fp_recovery.specs.Stands.{StandsFor}
use Rattle.fp_group_commit.specs.Calls.{Compacts}
use Rattle.fp_group_commit.specs.Store.{IsAtRest, StoreState, sealed_set}
use Rattle.fp_desk.specs.Desk.{DeskState, FitsBehind, head, log, most_of, settled_revision}
use Rattle.fp_committer.specs.Committer.{Agree, AreHalves, DeskHalfState}
use Rattle.fp_committer.specs.Course.{Course}
use Rattle.fp_committer.specs.Kept.{IsAfterFirst}
use Rattle.fp_committer.specs.Room.{IsDue}
use Rattle.fp_committer.specs.StoreHalf.{KeptBy, StoreHalfState}
use Rattle.fp_committer.specs.Way.{nothing_drawn}
use Rattle.fp_committer.specs.Works.{BreaksOff, Works}
use Rattle.fp_committer.specs.declared.fault.CommitFault.{CommitFault}
use Rattle.fp_committer.specs.declared.fault.CommitFault.TheVariants.{StoreFailed, Memory}

pub record SessionState (D : Type 0) : Type 0 where
  pub half : StoreHalfState D
  pub desk : DeskState
  pub stopped : Bool
  -- a step of a compaction is owed: nothing was done yet, or a batch was sealed since one was taken
  pub owes : Bool

abbrev pub disk_of : {D : Type 0} → SessionState D → D
disk_of s = s.half.store.disk

-- the flags with all edits that were taken
abbrev pub flags_of : {D : Type 0} → SessionState D → State
flags_of s = head s.desk

-- ---- a desk and its store
-- the bytes stand for what is settled, or for that and some first of the edits that wait
abbrev pub StandsAhead : DeskState → List ℕ → Type 0
StandsAhead d c = (flags : State) × IsAfterFirst d (settled_revision d) flags × StandsFor c flags

-- the store keeps what the desk tells, no batch is out, and a crash leaves what is kept
pub record IsInStep {D : Type 0} (disk : Ghosts D) (s : StoreState D) (d : DeskState) : Type 0 where
  pub same : d.store ≡ s.store
  pub rest : IsAtRest s
  pub settled : s.sealed ≡ d.settled
  pub none_drawn : d.drawn ≡ []
  pub accepts : d.stopped ≡ false
  pub keeps : EachCrash disk s.disk (λ c. StandsFor c (sealed_set s))

-- flags on the way, and edits that wait behind them, for which whatever a crash leaves of the disk
-- has no room, in a generation that none follows
pub record LacksRoomFor {D : Type 0} (disk : Ghosts D) (d : DeskState) (now : D) : Type 0 where
  pub flags : State
  pub batch : List Change
  pub from : IsAfterFirst d (settled_revision d) flags
  pub to : IsAfterFirst d (settled_revision d) (after_all flags batch)
  pub some : 0 < length batch
  pub generation : ℕ
  pub last : 2 ^ 64 ≤ generation + 1
  pub full : EachCrash disk now (λ c. IsFullFor c flags (record { first = 0; changes = batch })
      generation)

-- ---- the halves
-- they are of one committer, agree, and all that was drawn is settled or is drawn still
pub record AreOne {D : Type 0} (a : DeskHalfState) (b : StoreHalfState D) : Type 0 where
  pub halves : AreHalves a b
  pub agree : Agree a b
  pub whole : b.half.all ≡ b.half.settled ++ b.drawn

-- nothing is drawn, no call of the device has failed, and edits are taken
abbrev pub AreAtRest : {D : Type 0} → DeskHalfState → StoreHalfState D → Type 0
AreAtRest a b = (b.progress ≡ nothing_drawn) × (b.store.failed ≡ false) × (a.desk.stopped ≡ false)

-- from a and b they went on to x and y with the same edits, of which as many are settled or more, and
-- whatever a crash leaves at any moment is ahead of what was settled
pub record StaysAhead {D : Type 0} (disk : Ghosts D) (a : DeskHalfState) (b : StoreHalfState D)
    (x : DeskHalfState) (y : StoreHalfState D) : Type 0 where
  pub one : AreOne x y
  pub log : (x.desk.store ≡ a.desk.store) × (log x.desk ≡ log a.desk)
  pub settled : length a.desk.settled ≤ length x.desk.settled
  pub course : Course disk b y
  pub any_moment : AtAnyMoment disk b.store.disk y.store.disk (StandsAhead a.desk)
  pub honest : SameHonesty disk b.store.disk y.store.disk

-- ---- sessions
-- it takes edits
abbrev pub IsReady : {D : Type 0} → Ghosts D → SessionState D → Type 0
IsReady disk s = (s.stopped ≡ false) × IsInStep disk s.half.store s.desk

-- it begins: with the flags that its store begins with, and nothing drawn before
pub record Begins {D : Type 0} (disk : Ghosts D) (s : SessionState D) : Type 0 where
  pub start : flags_of s ≡ s.half.store.store.start
  pub none : (s.half.half.all ≡ []) × (s.half.half.settled ≡ [])
  pub exit : EachCrash disk (disk_of s) (KeptBy s.half)

-- the change makes one batch with those that wait
abbrev pub HasPlace : {D : Type 0} → SessionState D → Change → Type 0
HasPlace s c = (s.stopped ≡ false) × FitsBehind (most_of s.desk.store.start.limit) s.desk.waiting c

-- the step that is owed is taken: a step of a compaction where one is due, and else none
pub record Steps {D : Type 0} (disk : Ghosts D) (a b : SessionState D) : Type 0 where
  -- Where a compaction runs, or is to begin, its next step was taken.
  pub taken : IsDue a.half.store → Compacts disk.faults a.half.store b.half.store
  -- Where none is due the store stays.
  pub none : (IsDue a.half.store → ⊥) → b.half.store ≡ a.half.store

-- whatever a crash leaves at any moment from one to the other stands for flags of this kind
abbrev pub LeavesFlags : {D : Type 0} → Ghosts D → SessionState D → SessionState D → (State
    → Type 0) → Type 0
LeavesFlags disk a b P = SameHonesty disk (disk_of a) (disk_of b)
    × AtAnyMoment disk (disk_of a) (disk_of b) (λ c. (flags : State) × P flags × StandsFor c flags)

-- a session goes on, by a course of its store's half: its disk keeps its word as before and hasn't
-- failed, and its calls were those of whole works
pub record Keeps {D : Type 0} (disk : Ghosts D) (a b : SessionState D) : Type 0 where
  -- The disk is honest exactly if it was before.
  pub honest : SameHonesty disk (disk_of a) (disk_of b)
  -- No call of the disk failed.
  pub no_failure : disk.faults (disk_of b) ≡ disk.faults (disk_of a)
  -- A session that takes edits still does.
  pub ready : IsReady disk a → IsReady disk b
  -- Its calls were those of whole works: batches, each write, sync, write, sync; and steps of
  -- compactions.
  pub called : Works disk a.half.store b.half.store
  -- Its store's half went on by a course: at any moment a crash keeps all that was settled by then.
  pub course : Course disk a.half b.half

-- where the store failed, there was no room for what waited, or the device failed; where memory was
-- wanting, it didn't
abbrev pub CanFail : {D : Type 0} → Ghosts D → CommitFault → SessionState D → SessionState D
    → Type 0
CanFail disk StoreFailed a b = LacksRoomFor disk a.desk (disk_of b)
    ⊎ (disk.faults (disk_of a) < disk.faults (disk_of b))
CanFail disk Memory a b = disk.faults (disk_of b) ≡ disk.faults (disk_of a)

-- a session stops at what waits, by a course of its store's half: its calls were those of whole works,
-- and some first of one more
pub record Fails {D : Type 0} (disk : Ghosts D) (f : CommitFault)
    (a b : SessionState D) : Type 0 where
  -- The disk is honest exactly if it was before.
  pub honest : SameHonesty disk (disk_of a) (disk_of b)
  -- `StoreFailed`: the disk failed, or it has no room for edits that waited, and no generation to
  -- make it. `Memory`: no call of the disk failed.
  pub cause : IsReady disk a → CanFail disk f a b
  -- Its calls were those of whole works and some first ones of one more.
  pub called : BreaksOff disk a.half.store b.half.store
  -- Its store's half went on by a course: at any moment a crash keeps all that was settled by then.
  pub course : Course disk a.half b.half
