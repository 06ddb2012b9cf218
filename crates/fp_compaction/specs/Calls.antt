-- What the calls of a batch keep, however they end.
use Rattle.std.specs.Prelude.{◌≡◌, Bool, [], ◌∷◌, ◌++◌, Result, OnOk, OnErr}
use Rattle.fp_disk.specs.Crashes.{SameHonesty}
use Rattle.fp_disk.specs.Outcomes.{CountsFaults}
use Rattle.fp_disk.specs.declared.disk.Disk.{Ghosts}
use Rattle.fp_disk.specs.declared.disk.DiskFault.{DiskFault}
use Rattle.fp_disk.specs.declared.history.CallKind.{CallKind}
use Rattle.fp_journal.specs.declared.journal.Phase.{Phase}
use Rattle.fp_journal.specs.declared.journal.Phase.TheVariants.{Failed}
use Rattle.fp_slots.specs.State.{SameCompaction, SlotsState}
use Rattle.fp_compaction.specs.Sets.{GoesOnKept}

-- The disk is called once, for this, and keeps its word where it did before;
-- a fault is answered exactly where the device failed
pub record MakesCall {D T : Type 0} (disk : Ghosts D) (kind : CallKind)
    (old new : SlotsState D) (result : Result T DiskFault) : Type 0 where
  -- The disk is honest after it exactly if it was before.
  pub honest : SameHonesty disk old.journal.disk new.journal.disk
  -- One call of the disk, also at a fault.
  pub called : disk.calls new.journal.disk ≡ disk.calls old.journal.disk ++ kind ∷ []
  -- A fault exactly where the count of failures rose.
  pub cause : CountsFaults (disk.faults old.journal.disk) (disk.faults new.journal.disk) result

-- By that call the batch on its way comes to this phase, or the journal has failed; either way
-- opening its gate has begun exactly where `opens` says so. Nothing is sealed, the set that was
-- kept is kept, and the compaction beside it stays
pub record MovesBatch {D T : Type 0} (disk : Ghosts D) (kind : CallKind) (to : Phase)
    (opens : Bool) (old new : SlotsState D) (result : Result T DiskFault) : Type 0 where
  -- One call of the disk, also at a fault, which comes exactly where the count of failures rose.
  -- The disk is honest after it exactly if it was before.
  pub call : MakesCall disk kind old new result
  -- H: the set that was kept is kept.
  pub kept : GoesOnKept disk old new
  -- The slots stay, and the compaction beside the batch.
  pub same : SameCompaction old new
  -- Nothing is sealed.
  pub sealed : new.journal.sealed ≡ old.journal.sealed
  -- `Ok`: the next phase; a fault: `Failed`.
  pub phase : OnOk result (new.journal.phase ≡ to) × OnErr result (new.journal.phase ≡ Failed)
  -- `open_gate` has begun to open the batch's gate, also at a fault; none before it has.
  pub begun : new.journal.begun ≡ opens
