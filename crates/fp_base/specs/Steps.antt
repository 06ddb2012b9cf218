-- Steps of which each needs the one before.
use Rattle.std.specs.Prelude.{Result, Ok, Err}

-- a fault stops what would come after it
infixl 10 ◌>>=◌
abbrev pub ◌>>=◌ : {A B F : Type 0} → Result A F → (A → Result B F) → Result B F
(Ok x) >>= f = f x
(Err e) >>= f = Err e
