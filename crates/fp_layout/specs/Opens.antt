-- What an opening leaves of the disk that it reads, however it ends.
use Rattle.std.specs.Prelude.{◌≡◌, ◌<◌, List, [], ◌∷◌, Result, Ok, Err, OnOk, IfErr}
use Rattle.fp_disk.specs.Outcomes.{IsOutcome}
use Rattle.fp_disk.specs.Word.{KeepsWord}
use Rattle.fp_disk.specs.declared.disk.Disk.{Ghosts}
use Rattle.fp_disk.specs.declared.history.CallKind.{CallKind}
use Rattle.fp_disk.specs.declared.history.CallKind.TheVariants.{Length, Sync}
use Rattle.fp_journal.specs.Pieces.{MakesThenReads}
use Rattle.fp_layout.specs.declared.fault.OpenFault.{OpenFault}
use Rattle.fp_layout.specs.declared.fault.OpenFault.TheVariants.{Device, Memory}

-- The bytes stay, and a crash at any moment leaves what one could have left before. Its calls are
-- these, and reads behind them; none failed where all went well or memory was wanting, and one did
-- where the fault is the device's
pub record Opens {D T : Type 0} (disk : Ghosts D) (kinds : List CallKind) (old new : D)
    (result : Result T OpenFault) : Type 0 where
  -- H: the bytes stay.
  pub same : disk.honest old → disk.bytes new ≡ disk.bytes old
  -- H: a crash at any moment leaves what one could leave before. The disk is honest after it
  -- exactly if it was before.
  pub word : KeepsWord disk old new (IsOutcome (disk.unsynced old))
  -- `Ok`: these calls of the disk, and behind them reads alone; at a fault perhaps some first ones
  -- of them alone.
  pub called : MakesThenReads kinds (disk.calls old) (disk.calls new) result
  -- `Ok`: no call of the disk failed.
  pub no_failure : OnOk result (disk.faults new ≡ disk.faults old)
  -- `Device`: a call of the disk failed.
  pub cause : IfErr result (λ f. f ≡ Device → disk.faults old < disk.faults new)
  -- `Memory`: no call of the disk failed.
  pub memory : IfErr result (λ f. f ≡ Memory → disk.faults new ≡ disk.faults old)

-- ---- where the disk is in what was opened, or beside the fault
abbrev pub disk_after : {D T : Type 0} → (T → D) → Result T (OpenFault × D) → D
disk_after disk_of (Ok x) = disk_of x
disk_after disk_of (Err e) = e.1

abbrev pub without_disk : {D T : Type 0} → Result T (OpenFault × D) → Result T OpenFault
without_disk (Ok x) = Ok x
without_disk (Err e) = Err e.0

-- it makes sure of all that is there, asks how long the disk is, and reads
abbrev pub OpensDisk : {D T : Type 0} → Ghosts D → (T → D) → D → Result T (OpenFault × D) → Type 0
OpensDisk disk disk_of old result =
    Opens disk (Sync ∷ Length ∷ []) old (disk_after disk_of result) (without_disk result)
