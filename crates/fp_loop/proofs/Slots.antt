-- Slots of a list, by their places.
use Rattle.std.proofs.Common.{ℕ, zero, suc, List, [], ◌∷◌, Option, Some, None, IfSome, set, get_or}

-- what was written to a slot stands there, if there is such a slot
pub written : {T : Type 0} (Holds : T → Type 0) (slots : List (Option T)) (at : ℕ) (value : T) → Holds value
    → IfSome (get_or (set slots at (Some value)) at None) Holds
written Holds [] at value holds = tt
written Holds (slot ∷ slots) zero value holds = holds
written Holds (slot ∷ slots) (suc at) value holds = written Holds slots at value holds
