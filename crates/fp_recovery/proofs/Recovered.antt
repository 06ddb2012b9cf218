-- What a recovery answers, from what it found.
use Rattle.std.proofs.Common.{◌≡◌, ◌⊎◌, inl, inr, ⊎_elim, List, ℕ, refl}
use Rattle.fp_layout.specs.declared.fault.OpenFault.{OpenFault}
use Rattle.fp_layout.specs.declared.fault.OpenFault.TheVariants.{Unformatted, UnknownVersion, Damaged, Device, Memory}
use Rattle.fp_recovery.specs.Exact.{IsOfBytes}
use Rattle.fp_recovery.specs.Recovered.{IsWant}
use Rattle.fp_recovery.specs.Refusals.{RefusesBytes}
use Rattle.fp_recovery.proofs.OneFault.{one_fault}

bytes_or_want : (f : OpenFault) → IsOfBytes f ⊎ IsWant f
bytes_or_want Unformatted = inl tt
bytes_or_want (UnknownVersion v) = inl tt
bytes_or_want (Damaged at) = inl tt
bytes_or_want Device = inr (inl refl)
bytes_or_want Memory = inr (inr refl)

-- the fault that is told is the bytes' own
pub told_one : (c : List ℕ) (told f : OpenFault) → RefusesBytes c told → IsOfBytes f → RefusesBytes c f → (told ≡ f) ⊎ IsWant told
told_one c told f mine of its = ⊎_elim (λ here. inl (one_fault c told f here of mine its)) inr (bytes_or_want told)
