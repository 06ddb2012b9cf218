-- What a write of one byte leaves.
use Rattle.std.specs.Prelude.{◌≡◌, ◌⊎◌, ℕ, [], ◌∷◌, ◌++◌, Result, OnOk, IsErr}
use Rattle.fp_disk.specs.Checked.{Named}
use Rattle.fp_disk.specs.Crashes.{SameHonesty}
use Rattle.fp_disk.specs.Outcomes.{CountsFaults, ChangesWithin, Elapses, IsOutcome, Written, with_write}
use Rattle.fp_disk.specs.declared.disk.Disk.{Ghosts}
use Rattle.fp_disk.specs.declared.disk.DiskFault.{DiskFault}
use Rattle.fp_disk.specs.declared.history.CallKind.TheVariants.{Write}

-- A call writes this byte at a place, or fails and did so or nothing.
-- A crash may show it from then on
pub record WritesByte {D T : Type 0} (disk : Ghosts D) (old new : Named D) (at byte : ℕ)
    (result : Result T DiskFault) : Type 0 where
  -- it is the same disk
  pub name : new.name ≡ old.name
  -- H: `Ok`: the byte stands at its place, zeros in a gap
  pub written : disk.honest old.disk →
      OnOk result (Written (disk.bytes old.disk) at (byte ∷ []) (disk.bytes new.disk))
  -- the disk is honest after the call exactly if it was before
  pub honest : SameHonesty disk old.disk new.disk
  -- H: `Ok`: the place is pending
  pub unsynced : disk.honest old.disk →
      OnOk result (disk.unsynced new.disk ≡ with_write (disk.unsynced old.disk) at 1)
  -- H: a fault: what is read changed at this place at most
  pub partly : disk.honest old.disk → IsErr result →
      ChangesWithin (disk.bytes old.disk) at 1 (disk.bytes new.disk)
  -- H: a fault: pending is as before or as after `Ok`
  pub failed : disk.honest old.disk → IsErr result →
      (disk.unsynced new.disk ≡ disk.unsynced old.disk)
      ⊎ (disk.unsynced new.disk ≡ with_write (disk.unsynced old.disk) at 1)
  -- H: any crash state at any moment is one from before, or one with the place pending
  pub time : disk.honest old.disk →
      Elapses (disk.moment old.disk) (disk.moment new.disk) (disk.crash_states_since old.disk)
      (disk.crash_states_since new.disk) (IsOutcome (with_write (disk.unsynced old.disk) at 1))
  -- one write, also where it fails
  pub called : disk.calls new.disk ≡ disk.calls old.disk ++ Write ∷ []
  -- a fault exactly where the disk's count of failures rose
  pub cause : CountsFaults (disk.faults old.disk) (disk.faults new.disk) result
