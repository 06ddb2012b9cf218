-- What a line of a file of commands is, by its first byte.
use Rattle.std.specs.Prelude.{ℕ, Bool, false, not, ◌&&◌, ◌==◌, List, [], ◌∷◌}

-- `=..`
abbrev pub is_answer : List ℕ → Bool
is_answer [] = false
is_answer (first ∷ _) = first == 61

-- neither empty, nor `#..`, nor an answer
abbrev pub is_command : List ℕ → Bool
is_command [] = false
is_command (first ∷ _) = not (first == 35) && not (first == 61)
