-- A disk with a name, and its syncs.
use Rattle.std.specs.Prelude.{ℕ}

-- a disk and its name
pub record Named (D : Type 0) : Type 0 where
  pub disk : D
  pub name : ℕ

-- the name of a disk, and a moment of its clock
pub record Mark : Type 0 where
  pub disk : ℕ
  pub moment : ℕ
