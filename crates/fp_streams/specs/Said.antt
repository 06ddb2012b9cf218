-- What is said on a stream.
use Rattle.std.specs.Prelude.{ℕ, List, [], ◌∷◌, ◌++◌, Option}
use Rattle.std.specs.Io.KnownBytes.{Appends}

-- a text and a newline are written behind what a writer held
abbrev pub AppendsLine : Option (List ℕ) → Option (List ℕ) → List ℕ → Type 0
AppendsLine old new text = Appends old new (text ++ 10 ∷ [])
