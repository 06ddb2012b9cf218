-- Tests in their order, each beside the fault where it isn't met.
use Rattle.std.specs.Prelude.{List, [], ◌∷◌, Bool, Option, Some, None, if◌then◌else◌}

-- the fault of the first test that isn't met
abbrev pub first_failed : {F : Type 0} → List (Bool × F) → Option F
first_failed [] = None
first_failed (t ∷ ts) = if t.0 then first_failed ts else Some t.1
