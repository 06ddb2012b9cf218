-- What the recovery of a disk answers, of its bytes and back.
use Rattle.std.specs.Prelude.{◌≡◌, ◌⊎◌, ℕ, List, Result, Ok, Err}
use Rattle.fp_edit.specs.Flags.{State}
use Rattle.fp_layout.specs.Size.{slot_of}
use Rattle.fp_layout.specs.declared.fault.OpenFault.{OpenFault}
use Rattle.fp_layout.specs.declared.fault.OpenFault.TheVariants.{Device, Memory}
use Rattle.fp_layout.specs.declared.opening.Place.{Place}
use Rattle.fp_recovery.specs.Exact.{IsOfBytes}
use Rattle.fp_recovery.specs.Refusals.{RefusesBytes}
use Rattle.fp_recovery.specs.Stands.{StandsFor, gate_of}

-- the bytes stand for the set, by the text of this slot,
-- and the closed gate behind it is at this place
pub record StandsAt (c : List ℕ) (s : State) (place : Place) : Type 0 where
  pub stands : StandsFor c s
  pub slot_is : place.slot ≡ slot_of stands.size stands.side
  pub gate_is : place.gate ≡ gate_of stands

-- the device was wanting, or memory
abbrev pub IsWant : OpenFault → Type 0
IsWant f = (f ≡ Device) ⊎ (f ≡ Memory)

-- if the bytes stand for a set, it is the answer
abbrev pub FindsEach : {P : Type 0} → List ℕ → Result (State × P) OpenFault → Type 0
FindsEach c (Ok found) = (s : State) → StandsFor c s → found.0 ≡ s
FindsEach c (Err f) = (s : State) → StandsFor c s → IsWant f

-- if the bytes have a fault, it is the answer
abbrev pub TellsEach : {A : Type 0} → List ℕ → Result A OpenFault → Type 0
TellsEach c (Ok found) = (f : OpenFault) → IsOfBytes f → RefusesBytes c f → ⊥
TellsEach c (Err told) = (f : OpenFault) → IsOfBytes f → RefusesBytes c f → (told ≡ f) ⊎ IsWant told
