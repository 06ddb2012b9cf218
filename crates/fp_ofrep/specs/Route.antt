-- What is asked for. A target asks by `/ofrep/v1/evaluate/flags`, or by a flag below it.
use Rattle.std.specs.Prelude.{ℕ, List, [], ◌∷◌, codes, ◌==◌, Bool, false, ◌||◌, Option}
use Rattle.std.specs.Prelude.{Some, None, if◌then◌else◌}

pub data Route : Type 0 where
  bulk : Route
  -- the flag's key is this segment of the path, still encoded
  single : List ℕ → Route
  -- the flag's key is given itself, which no target does
  key : List ℕ → Route

abbrev pub flags_path : List ℕ
flags_path = codes "/ofrep/v1/evaluate/flags"

-- what is left of a text behind a front
abbrev pub behind : List ℕ → List ℕ → Option (List ℕ)
behind [] text = Some text
behind (x ∷ front) [] = None
behind (x ∷ front) (y ∷ text) = if x == y then behind front text else None

-- the path of a target: all before the first `?`
abbrev pub path_of : List ℕ → List ℕ
path_of [] = []
path_of (b ∷ bs) = if b == 63 then [] else b ∷ path_of bs

abbrev pub has_byte : ℕ → List ℕ → Bool
has_byte x [] = false
has_byte x (b ∷ bs) = (b == x) || has_byte x bs

-- nothing, or a slash and one segment that isn't empty
abbrev pub route_below : List ℕ → Option Route
route_below [] = Some bulk
route_below (b ∷ []) = None
route_below (b ∷ c ∷ rest) = if b == 47 then (if has_byte 47 (c ∷ rest) then None
    else Some (single (c ∷ rest))) else None

abbrev pub route_behind : Option (List ℕ) → Option Route
route_behind None = None
route_behind (Some rest) = route_below rest

abbrev pub route_of : List ℕ → Option Route
route_of target = route_behind (behind flags_path (path_of target))
