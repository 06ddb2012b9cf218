-- Bodies as the bytes of a slot.
use Rattle.std.specs.Prelude.{◌≢◌, ◌<◌, ◌+◌, ◌-◌, ℕ, List, [], ◌∷◌, ◌++◌, length, slice_range}
use Rattle.std.specs.Int.{w32, to_be_bytes}
use Rattle.fp_journal.specs.Holds.{Holds}
use Rattle.fp_gate.specs.Numbers.{OPEN}
use Rattle.fp_journal.specs.Numbers.{LENGTH_FIELD}

-- a body behind its length
abbrev pub with_length : List ℕ → List ℕ
with_length body = to_be_bytes w32 (length body) ++ body

-- and a closed gate behind it
abbrev pub with_gate : List ℕ → List ℕ
with_gate body = with_length body ++ 0 ∷ []

-- the body in such bytes
abbrev pub body_of : List ℕ → List ℕ
body_of bytes = slice_range bytes LENGTH_FIELD (length bytes - 1)

-- each body behind its length and an open gate
abbrev pub spell : List (List ℕ) → List ℕ
spell [] = []
spell (b ∷ bs) = OPEN ∷ (with_length b ++ spell bs)

-- The text stands there, and before this stop it ends at a closed gate.
-- Behind that gate may be anything
pub record Ends (at stop : ℕ) (text c : List ℕ) : Type 0 where
  pub gate : ℕ
  pub shut : gate ≢ OPEN
  pub holds : Holds c at (text ++ gate ∷ [])
  pub within : at + length text < stop
