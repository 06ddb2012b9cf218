-- What follows from the definitions, for every list of bytes: it stands for a set or has a fault;
-- and a disk that is refused shows one fault, at one place within it, and stands for no set.
use Rattle.std.specs.Prelude.{◌≡◌, ◌⊎◌, ◌≤◌, ℕ, List, length}
use Rattle.fp_disk.specs.Outcomes.{AreBytes}
use Rattle.fp_edit.specs.Flags.{State}
use Rattle.fp_layout.specs.declared.fault.OpenFault.{OpenFault}
use Rattle.fp_layout.specs.declared.fault.OpenFault.TheVariants.{Unformatted, UnknownVersion}
use Rattle.fp_layout.specs.declared.fault.OpenFault.TheVariants.{Damaged, Device, Memory}
use Rattle.fp_recovery.specs.Refusals.{RefusesBytes}
use Rattle.fp_recovery.specs.Stands.{StandsFor}

-- the bytes are at fault, and neither the device nor memory
abbrev pub IsOfBytes : OpenFault → Type 0
IsOfBytes Unformatted = Unit {0}
IsOfBytes (UnknownVersion v) = Unit {0}
IsOfBytes (Damaged at) = Unit {0}
IsOfBytes Device = ⊥
IsOfBytes Memory = ⊥

-- bytes have one fault at most
abbrev pub HaveOneFault : Type 0
HaveOneFault = (c : List ℕ) (f g : OpenFault) → IsOfBytes f → IsOfBytes g
    → RefusesBytes c f → RefusesBytes c g → f ≡ g

-- bytes that stand for a set have none
abbrev pub StandingHaveNoFault : Type 0
StandingHaveNoFault = (c : List ℕ) (f : OpenFault) (s : State) → IsOfBytes f
    → RefusesBytes c f → StandsFor c s → ⊥

-- the place of damage is one of the bytes', or their end where one is missing
abbrev pub HaveFaultsWithin : Type 0
HaveFaultsWithin = (c : List ℕ) (at : ℕ) → RefusesBytes c (Damaged at) → at ≤ length c

-- bytes stand for a set or have a fault
abbrev pub StandOrHaveFault : Type 0
StandOrHaveFault = (c : List ℕ) → AreBytes c
    → ((s : State) × StandsFor c s) ⊎ ((f : OpenFault) × IsOfBytes f × RefusesBytes c f)
