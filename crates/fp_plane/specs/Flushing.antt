-- What a flusher gives back.
use Rattle.std.specs.Prelude.{◌≡◌, ◌≢◌, ◌⊎◌, ◌<◌, ◌∷◌, [], ℕ, Bool, List, false, true, OnErr, OnOk, Result}
use Rattle.fp_disk.specs.Crashes.{AtAnyMoment}
use Rattle.fp_disk.specs.declared.disk.Disk.{Ghosts}
use Rattle.fp_slots.specs.declared.slots.Step.TheVariants.{Begin}
use Rattle.fp_group_commit.specs.Calls.{Compacts}
use Rattle.fp_group_commit.specs.Store.{StoreState}
use Rattle.fp_committer.specs.Course.{Course, KeptThrough, LacksRoom}
use Rattle.fp_committer.specs.Room.{IsDue}
use Rattle.fp_committer.specs.StoreHalf.{StoreHalfState}
use Rattle.fp_committer.specs.Way.{nothing_drawn}
use Rattle.fp_plane.specs.declared.flushing.Broken.{Broken}

-- nothing is drawn, and no call of the disk has failed
abbrev pub IsResting : {D : Type 0} → StoreHalfState D → Type 0
IsResting h = (h.progress ≡ nothing_drawn) × (h.store.failed ≡ false)

-- A compaction that runs went on by its next step. Where one was to begin its first step was taken, or
-- memory was wanting for it and nothing changed; and where none was due nothing changed
pub record StepsWhereDue {D : Type 0} (faults : D → ℕ) (a b : StoreState D) : Type 0 where
  pub runs : a.compaction.next ≢ Begin → Compacts faults a b
  pub due : IsDue a → Compacts faults a b ⊎ (b ≡ a)
  pub none : (IsDue a → ⊥) → b ≡ a

-- the step that was owed was taken, where it was due, and else nothing changed
pub record PaysOwed {D : Type 0} (faults : D → ℕ) (owed : Bool) (a b : StoreHalfState D) : Type 0 where
  pub step : owed ≡ true → StepsWhereDue faults a.store b.store
  pub no_step : owed ≡ false → b ≡ a

-- The step that was owed was taken first. A course of batches, settlements and steps followed
pub record PaysFirst {D : Type 0} (disk : Ghosts D) (owed : Bool) (a b : StoreHalfState D) : Type 0 where
  -- the half between the two
  pub paid : StoreHalfState D
  pub first : PaysOwed disk.faults owed a paid
  pub course : Course disk paid b

-- the half where a turn's batches end, and behind the step that follows
pub record Turn (D : Type 0) : Type 0 where
  pub sealed : StoreHalfState D
  pub paid : StoreHalfState D

-- from one half to another by turns: each is a course, mostly of one batch, and the step behind it,
-- where one is due
abbrev pub Turns : {D : Type 0} → Ghosts D → StoreHalfState D → List (Turn D) → StoreHalfState D → Type 0
Turns disk a [] b = b ≡ a
Turns disk a (t ∷ ts) b = Course disk a t.sealed
    × StepsWhereDue disk.faults t.sealed.store t.paid.store × Turns disk t.paid ts b

-- The step that was owed was taken first, and one at the end of each turn
pub record PaysEach {D : Type 0} (disk : Ghosts D) (owed : Bool) (a b : StoreHalfState D) : Type 0 where
  pub paid : StoreHalfState D
  pub first : PaysOwed disk.faults owed a paid
  pub turns : List (Turn D)
  pub each : Turns disk paid turns b

-- why sealing breaks off: the device failed, or there is no room for what was drawn
abbrev pub HasBroken : {D : Type 0} → Ghosts D → (before after : D) → StoreHalfState D → Type 0
HasBroken disk before after last = (disk.faults before < disk.faults after) ⊎ LacksRoom disk last

-- It began with one half and ended with the other, by a course of batches, settlements and steps of
-- compactions between them: whatever a crash leaves at any moment of it stands for some first edits
-- that were drawn, among them all that were settled by then. It broke off only where the device
-- failed, or where there is no room for what is drawn and no generation to make it
pub record Flushes {D : Type 0} (disk : Ghosts D) (first last : StoreHalfState D)
    (ended : Result (Unit {0}) Broken) : Type 0 where
  -- The half went on by a course: batches, settlements and steps of compactions between them, of
  -- which each moment keeps all that was settled by then.
  pub course : Course disk first last
  -- H: any crash state at any moment stands for the set after some first edits that were drawn,
  -- among them all that were settled as it began.
  pub any_moment : AtAnyMoment disk first.store.disk last.store.disk (KeptThrough first last)
  -- Where it ended, nothing is drawn and no call of the disk has failed.
  pub rest : OnOk ended (IsResting last)
  -- Where it ended, no call of the disk failed.
  pub no_failure : OnOk ended (disk.faults last.store.disk ≡ disk.faults first.store.disk)
  -- It broke off only where a call of the disk failed, or where no generation is left to make
  -- room for what is drawn, and H: no crash state has room for it.
  pub cause : OnErr ended (HasBroken disk first.store.disk last.store.disk last)
