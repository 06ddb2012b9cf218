-- How the store's half goes on, and what any moment of that leaves.
use Rattle.std.specs.Prelude.{◌≡◌, ◌⊎◌, ◌<◌, ◌≤◌, ◌+◌, ◌^◌, ℕ, List, [], ◌∷◌, ◌++◌, true, false, length}
use mathlib.Core.List.{IsPrefix}
use Rattle.fp_disk.specs.Crashes.{AtAnyMoment, EachCrash, SameHonesty}
use Rattle.fp_disk.specs.Outcomes.{IsOutcome}
use Rattle.fp_disk.specs.declared.disk.Disk.{Ghosts}
use Rattle.fp_disk.specs.declared.history.CallKind.{CallKind}
use Rattle.fp_edit.specs.Flags.{State}
use Rattle.fp_edit.specs.Log.{after_all}
use Rattle.fp_recovery.specs.Room.{IsFullFor}
use Rattle.fp_group_commit.specs.Store.{StoreState}
use Rattle.fp_committer.specs.Kept.{KeptOf}
use Rattle.fp_committer.specs.StoreHalf.{KeptBy, StoreHalfState, taken_by}
use Rattle.fp_committer.specs.Way.{Progress, batch_drawn, drawn_batch}
use Rattle.fp_committer.specs.Works.{Works}
use Rattle.fp_committer.specs.declared.fault.CommitFault.{CommitFault}
use Rattle.fp_committer.specs.declared.fault.CommitFault.TheVariants.{StoreFailed, Memory}

-- ---- one after another
-- The disk was called, and what was drawn and settled stayed as it was: whatever a crash leaves at
-- any moment stands for some first edits that were drawn, among them all that are settled
pub record CallsOn {D : Type 0} (disk : Ghosts D) (a b : StoreHalfState D) : Type 0 where
  -- What is drawn, what the half lists and which store it is stay.
  pub same : (b.half ≡ a.half) × (b.drawn ≡ a.drawn) × (b.store.store ≡ a.store.store)
  -- H: any crash state at any moment stands for the set after some first edits that were drawn,
  -- all that are settled among them.
  pub any_moment : AtAnyMoment disk a.store.disk b.store.disk (KeptBy b)
  -- H: so does any crash state after the call.
  pub exit : EachCrash disk b.store.disk (KeptBy b)
  -- The disk is honest after it exactly if it was before.
  pub honest : SameHonesty disk a.store.disk b.store.disk

-- the disk was let alone, and more was drawn, or settled, which a crash keeps from then on
pub record ListsOn {D : Type 0} (disk : Ghosts D) (a b : StoreHalfState D) : Type 0 where
  pub store : b.store ≡ a.store
  pub names : (b.half.own ≡ a.half.own) × (b.half.there ≡ a.half.there)
  pub all : IsPrefix a.half.all b.half.all
  pub settled : IsPrefix a.half.settled b.half.settled
  pub exit : EachCrash disk b.store.disk (KeptBy b)

-- from one, by way of these, to another
abbrev pub Passes : {D : Type 0} → Ghosts D → StoreHalfState D → List (StoreHalfState D)
    → StoreHalfState D → Type 0
Passes disk a [] b = b ≡ a
Passes disk a (x ∷ xs) b = (CallsOn disk a x ⊎ ListsOn disk a x) × Passes disk x xs b

-- the half went on from one to the other, by calls of the disk, and by draws and settlements between
-- them: so at any moment of it a crash keeps all that was settled by then
pub record Course {D : Type 0} (disk : Ghosts D) (a b : StoreHalfState D) : Type 0 where
  pub by : List (StoreHalfState D)
  pub each : Passes disk a by b

-- What a course leaves, at any moment of it: the set after some first edits of those that are drawn
-- at its end, among them all that were settled as it began
abbrev pub KeptThrough : {D : Type 0} → StoreHalfState D → StoreHalfState D → List ℕ → Type 0
KeptThrough a b c = KeptOf a.store.store.start b.half.all
    (a.store.store.start.revision + length a.half.settled) c

-- ---- by which calls
-- the device didn't fail, and its calls were those of whole works
pub record GoesWell {D : Type 0} (disk : Ghosts D) (a b : StoreState D) : Type 0 where
  pub well : b.failed ≡ false
  pub no_failure : disk.faults b.disk ≡ disk.faults a.disk
  pub works : Works disk a b

-- these calls took what is drawn on to there, the device didn't fail, and a compaction stays where it is
pub record Reaches {D : Type 0} (disk : Ghosts D) (calls : List CallKind) (to : Progress)
    (a b : StoreHalfState D) : Type 0 where
  pub progress : b.progress ≡ to
  pub well : b.store.failed ≡ false
  pub no_failure : disk.faults b.store.disk ≡ disk.faults a.store.disk
  pub next : b.store.compaction.next ≡ a.store.compaction.next
  pub called : disk.calls b.store.disk ≡ disk.calls a.store.disk ++ calls

-- why it broke off: the device failed, and so the store; want of memory leaves it well
abbrev pub FailsBy : {D : Type 0} → Ghosts D → StoreState D → StoreState D → CommitFault → Type 0
FailsBy disk a b StoreFailed = (b.failed ≡ true) × (disk.faults a.disk < disk.faults b.disk)
FailsBy disk a b Memory = (b.failed ≡ false) × (disk.faults b.disk ≡ disk.faults a.disk)

-- whatever a crash leaves has no room for what is drawn, in a generation that none follows
pub record LacksRoom {D : Type 0} (disk : Ghosts D) (h : StoreHalfState D) : Type 0 where
  pub drawn : h.progress ≡ batch_drawn
  pub last : 2 ^ 64 ≤ h.store.compaction.generation + 1
  pub full : EachCrash disk h.store.disk (λ c. IsFullFor c
      (after_all h.store.store.start h.half.settled) (drawn_batch (taken_by h))
      h.store.compaction.generation)

-- or there is no room
abbrev pub HasCause : {D : Type 0} → Ghosts D → StoreHalfState D → StoreHalfState D → CommitFault
    → Type 0
HasCause disk a b f = FailsBy disk a.store b.store f
    ⊎ ((f ≡ StoreFailed) × LacksRoom disk b
    × (disk.faults b.store.disk ≡ disk.faults a.store.disk))

-- ---- a whole run
-- A store went on from one to the other by the course of a committer's half, of which nothing was
-- drawn before: whatever a crash leaves at any moment of it stands for the flags that it began with
-- and some first of the edits that were drawn since
pub record GoesThrough {D : Type 0} (disk : Ghosts D) (s t : StoreState D) : Type 0 where
  pub first : StoreHalfState D
  pub last : StoreHalfState D
  pub from : first.store ≡ s
  pub to : last.store ≡ t
  pub fresh : (first.half.all ≡ []) × (first.half.settled ≡ [])
  pub course : Course disk first last
  pub any_moment : AtAnyMoment disk s.disk t.disk
      (KeptOf s.store.start last.half.all s.store.start.revision)

-- From its opening on the disk was called by a committer alone. The course says of each moment that a
-- crash keeps all edits that were settled by then, and nobody is told of others; and so, over all of
-- it, whatever a crash leaves at any moment is what it might have left before, or stands for the
-- flags that the disk held and some first of the edits that were drawn
pub record RunsCommitter {D : Type 0} (disk : Ghosts D) (before after : D) (start : State)
    : Type 0 where
  pub opened : StoreState D
  pub closed : StoreState D
  pub start_is : opened.store.start ≡ start
  pub opening : AtAnyMoment disk before opened.disk (IsOutcome (disk.unsynced before))
  pub run : GoesThrough disk opened closed
  pub given_back : closed.disk ≡ after
  pub any_moment : AtAnyMoment disk before after (λ c. IsOutcome (disk.unsynced before) c
      ⊎ KeptOf start run.last.half.all start.revision c)
