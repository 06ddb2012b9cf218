-- What each call of the disk that a journal makes keeps, however it ends.
use Rattle.std.specs.Prelude.{ℕ, List, Result}
use Rattle.fp_disk.specs.Outcomes.{CountsFaults}
use Rattle.fp_disk.specs.Word.{KeepsWord}
use Rattle.fp_disk.specs.declared.disk.Disk.{Ghosts}
use Rattle.fp_disk.specs.declared.disk.DiskFault.{DiskFault}
use Rattle.fp_journal.specs.Moments.{KeepsSynced, KeepsRead}
use Rattle.fp_journal.specs.State.{JournalState, SameSlot}

-- A crash at any moment leaves what has P, and what was firm at the places Out is firm all the time;
-- a fault is answered exactly where the device failed
pub record KeepsApart {D T : Type 0} (disk : Ghosts D) (old new : D) (P : List ℕ → Type 0)
    (Out : ℕ → ℕ → Type 0) (result : Result T DiskFault) : Type 0 where
  -- H: a crash at any moment leaves what the clause names. The disk is honest after it exactly if
  -- it was before.
  pub word : KeepsWord disk old new P
  -- H: text that the last sync made sure of, at places that the call doesn't write, stays so, and
  -- is in each crash state at any moment.
  pub apart : KeepsSynced disk old new Out
  -- A fault exactly where the count of failures rose.
  pub cause : CountsFaults (disk.faults old) (disk.faults new) result

-- The slot stays, and what lies at the places Out is read as it was
pub record KeepsAround {D T : Type 0} (disk : Ghosts D) (old new : JournalState D)
    (P : List ℕ → Type 0) (Out : ℕ → ℕ → Type 0) (result : Result T DiskFault) : Type 0 where
  -- The slot stays, and the front and the names.
  pub same : SameSlot old new
  -- H: at any moment of its call a crash leaves what the clause names, and text that was sure
  -- elsewhere. A fault exactly where the count of failures rose.
  pub call : KeepsApart disk old.disk new.disk P Out result
  -- H: text at places that the call doesn't write is read as before.
  pub beside : KeepsRead disk old.disk new.disk Out
