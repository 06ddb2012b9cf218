-- What stands in front of a slot's batches.
use Rattle.std.specs.Prelude.{◌≤◌, ℕ, List, ◌∷◌, ◌++◌, length}
use Rattle.std.specs.Int.{w32, w64, to_be_bytes}
use Rattle.fp_gate.specs.Numbers.{OPEN}
use Rattle.fp_slots.specs.Numbers.{FIRST_VERSION, VERSION}

-- a version that is read
pub record IsVersion (version : ℕ) : Type 0 where
  pub least : FIRST_VERSION ≤ version
  pub greatest : version ≤ VERSION

-- the generation, the version, the revision of the image, its length, the image
abbrev pub slot_text : (version generation base : ℕ) → List ℕ → List ℕ
slot_text version generation base image = to_be_bytes w64 generation
    ++ version ∷ (to_be_bytes w64 base ++ (to_be_bytes w32 (length image) ++ image))

-- that behind an open gate
abbrev pub head_text : (version generation base : ℕ) → List ℕ → List ℕ
head_text version generation base image = OPEN ∷ slot_text version generation base image
