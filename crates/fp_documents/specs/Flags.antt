-- Flags by their keys, the bytes that they take in an image, and the sets that are made of them.
use Rattle.std.specs.Prelude.{ℕ, ◌+◌, List, [], ◌∷◌, length, Option, Some, None}
use Rattle.std.specs.FinMap as map
use Rattle.fp_base.specs.Bytes.{bytes_cmp}
use Rattle.fp_documents.specs.Numbers.{FLAG_FRAME, IMAGE_HEAD}
use Rattle.fp_documents.specs.declared.flags.Flag.{Flag}

-- from the bytes of a key to its flag, whose definition is seen as its canonical text
abbrev pub Flags : Type 0
Flags = map.FinMap bytes_cmp Flag

-- what one flag takes in an image
abbrev pub cost : List ℕ × Flag → ℕ
cost e = FLAG_FRAME + length e.0 + length e.1.definition

abbrev pub total_cost : List (List ℕ × Flag) → ℕ
total_cost [] = 0
total_cost (e ∷ es) = cost e + total_cost es

-- what a set takes in an image
abbrev pub size : Flags → ℕ
size flags = IMAGE_HEAD + total_cost (map.entries flags)

-- what is found at a key takes nothing where nothing is found
abbrev pub cost_found : List ℕ → Option Flag → ℕ
cost_found k None = 0
cost_found k (Some f) = cost (k, f)

abbrev pub one_found : Option Flag → ℕ
one_found None = 0
one_found (Some f) = 1

-- a set at a revision, under a limit of its size
pub record State : Type 0 where
  pub flags : Flags
  pub revision : ℕ
  pub limit : ℕ
