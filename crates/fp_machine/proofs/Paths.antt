-- The parts of a path.
use Rattle.std.proofs.Common.{◌≡◌, ◌≢◌, ◌<◌, ◌==◌, ℕ, List, [], ◌∷◌, ◌++◌, length, get_or, false, refl, ne_eqb}
use Rattle.std.specs.List.{All as Every}
use Rattle.std.proofs.lemmas.List.Splits.{slice_split_at, slice_split_none}
use Rattle.std.proofs.lemmas.List.Elements.{All-from_get_or}
use Rattle.fp_operators.specs.Path.{parts}

abbrev pub Lacks : ℕ → List ℕ → Type 0
Lacks c xs = (i : ℕ) → i < length xs → get_or xs i 0 ≢ c

no_dots : (xs : List ℕ) → Lacks 46 xs → Every (λ b. b == 46 ≡ false) xs
no_dots xs h = All-from_get_or (λ b. b == 46 ≡ false) xs 0 (λ i less. ne_eqb (get_or xs i 0) 46 (h i less))

pub parts_cut : (xs rest : List ℕ) → Lacks 46 xs → parts (xs ++ 46 ∷ rest) ≡ xs ∷ parts rest
parts_cut xs rest h = slice_split_at (λ b. b == 46) xs 46 rest (no_dots xs h) refl

pub parts_last : (xs : List ℕ) → Lacks 46 xs → parts xs ≡ xs ∷ []
parts_last xs h = slice_split_none (λ b. b == 46) xs (no_dots xs h)
