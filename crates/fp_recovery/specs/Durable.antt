-- Sets that a disk is sure to keep.
use Rattle.std.specs.Prelude.{◌⊎◌, ◌/◌, ℕ, List}
use Rattle.std.specs.FinMap as map
use Rattle.fp_disk.specs.Outcomes.{PendingState, IsOutcome}
use Rattle.fp_edit.specs.Flags.{State}
use Rattle.fp_layout.specs.declared.fault.OpenFault.TheVariants.{Unformatted}
use Rattle.fp_recovery.specs.Refusals.{RefusesBytes}
use Rattle.fp_recovery.specs.Stands.{StandsFor}

-- whatever a crash leaves now stands for the set
abbrev pub IsDurable : PendingState → State → Type 0
IsDurable u s = (c : List ℕ) → IsOutcome u c → StandsFor c s

-- what nobody made a disk of, or a disk of no flags
abbrev pub IsNewSetOrNone : ℕ → List ℕ → Type 0
IsNewSetOrNone size c = RefusesBytes c Unformatted ⊎ StandsFor c
    (record { flags = map.empty; revision = 0; limit = size / 2 })
