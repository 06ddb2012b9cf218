-- The first bytes from a place on.
use Rattle.std.specs.Prelude.{◌≡◌, ◌-◌, ℕ, List, length, min}
use Rattle.fp_journal.specs.Holds.{Holds}

-- these stand there: so many, or as many as there are
pub record AreFirst (c : List ℕ) (at count : ℕ) (bytes : List ℕ) : Type 0 where
  pub there : Holds c at bytes
  pub many : length bytes ≡ min count (length c - at)
