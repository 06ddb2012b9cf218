-- Keys that were met.
use Rattle.std.specs.Prelude.{◌≡◌, ℕ, List}
use Rattle.fp_edit.specs.Changes.{is_among}

-- the same keys, whatever their order and how often each is there
abbrev pub AreMet : List (List ℕ) → List (List ℕ) → Type 0
AreMet met keys = (k : List ℕ) → is_among k met ≡ is_among k keys
