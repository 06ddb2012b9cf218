-- What each call of the disk keeps, however it ends.
use Rattle.std.specs.Prelude.{◌≡◌, ◌+◌, ◌-◌, ℕ, List, Result, OnOk, OnErr, min, slice_range}
use Rattle.fp_disk.specs.Outcomes.{PendingState, Written, with_write}
use Rattle.fp_disk.specs.declared.disk.Disk.{Ghosts}
use Rattle.fp_disk.specs.declared.disk.DiskFault.{DiskFault}
use Rattle.fp_journal.specs.Calls.{KeepsApart}
use Rattle.fp_journal.specs.declared.journal.Phase.TheVariants.{Failed}
use Rattle.fp_slots.specs.State.{OutsideBoth, SameCompaction, SameSlots, SlotsState}
use Rattle.fp_slots.specs.Numbers.{PART}

-- A crash at any moment leaves what has P, and outside both slots what was there
abbrev pub KeepsOutside : {D T : Type 0} → Ghosts D → (old new : SlotsState D)
    → (P : List ℕ → Type 0) → Result T DiskFault → Type 0
KeepsOutside disk old new P result =
    KeepsApart disk old.journal.disk new.journal.disk P (OutsideBoth old) result

-- ---- of a compaction
-- the slots stay, and so does the journal's phase unless the device failed
pub record KeepsSlots {D T : Type 0} (disk : Ghosts D) (old new : SlotsState D)
    (P : List ℕ → Type 0) (result : Result T DiskFault) : Type 0 where
  -- The slots stay, what they hold, and what the other one is to hold.
  pub same : SameSlots old new
  -- `Ok`: the phase stays; a fault: it is `Failed`.
  pub phase : OnOk result (new.journal.phase ≡ old.journal.phase)
      × OnErr result (new.journal.phase ≡ Failed)
  -- H: at any moment of its call a crash leaves what the clause names. Text outside both slots
  -- stays sure. A fault exactly where the count of failures rose.
  pub call : KeepsOutside disk old new P result

-- ---- of a part of the image
-- where the next part begins in the text, and its bytes: no more than a part has, and no more than
-- is left
abbrev pub part_place : {D : Type 0} → SlotsState D → ℕ
part_place s = s.head - s.left

abbrev pub part_bytes : {D : Type 0} → SlotsState D → List ℕ
part_bytes s = slice_range s.text (part_place s) (part_place s + min s.left PART)

-- these bytes, of which there are so many, were written at a place, and nothing else was
pub record IsPartWritten {D : Type 0} (bytes : D → List ℕ) (unsynced : D → PendingState)
    (old new : D) (at : ℕ) (part : List ℕ) (count : ℕ) : Type 0 where
  pub text : Written (bytes old) at part (bytes new)
  pub pending : unsynced new ≡ with_write (unsynced old) at count

-- the next part was, where it stands in the other slot
abbrev pub WritesPart : {D : Type 0} → Ghosts D → (old new : SlotsState D) → Type 0
WritesPart disk old new = IsPartWritten disk.bytes disk.unsynced old.journal.disk new.journal.disk
    (old.other.start + part_place old) (part_bytes old) (min old.left PART)

-- ---- of a batch
-- the compaction beside it stays
pub record KeepsCompaction {D T : Type 0} (disk : Ghosts D) (old new : SlotsState D)
    (P : List ℕ → Type 0) (result : Result T DiskFault) : Type 0 where
  -- The slots and the compaction beside it stay.
  pub same : SameCompaction old new
  -- H: at any moment of its call a crash leaves what the clause names. Text outside both slots
  -- stays sure. A fault exactly where the count of failures rose.
  pub call : KeepsOutside disk old new P result
