-- The calls of a disk.
use Rattle.std.specs.Prelude.{◌≡◌, ◌⊎◌, ℕ, List, [], ◌∷◌, ◌++◌, Result, Ok, Err}
use Rattle.fp_disk.specs.declared.history.CallKind.{CallKind}

-- which calls were made, in order, and how many failed
pub record Calls : Type 0 where
  pub made : List CallKind
  pub faults : ℕ

-- `new` is `old` and behind it some first of these calls
abbrev pub MakesSome : List CallKind → (old new : List CallKind) → Type 0
MakesSome [] old new = new ≡ old
MakesSome (kind ∷ kinds) old new = (new ≡ old) ⊎ MakesSome kinds (old ++ kind ∷ []) new

-- a step makes these calls in this order, and none but some first of them where it ends early
abbrev pub Makes : {T E : Type 0} → List CallKind → (old new : List CallKind) → Result T E → Type 0
Makes kinds old new (Ok x) = new ≡ old ++ kinds
Makes kinds old new (Err e) = MakesSome kinds old new
