-- The lines of an input, and those that are answered.
use Rattle.std.specs.Prelude.{ℕ, List, [], ◌∷◌, length, Bool, ◌&&◌, ◌||◌, ◌==◌, not, nat_le}
use Rattle.std.specs.Prelude.{if◌then◌else◌, filter, take, ◌+◌}
use Rattle.std.specs.List.{list_all}
use Rattle.fp_edit.specs.Numbers.{LONGEST_LINE}

abbrev pub onto_first : ℕ → List (List ℕ) → List (List ℕ)
onto_first b [] = (b ∷ []) ∷ []
onto_first b (line ∷ later) = (b ∷ line) ∷ later

-- what stands between the newlines; the last line, which may be empty, has none behind it
abbrev pub lines : List ℕ → List (List ℕ)
lines [] = [] ∷ []
lines (b ∷ bs) = if b == 10 then [] ∷ lines bs else onto_first b (lines bs)

-- a space, a tab or a carriage return
abbrev pub is_space : ℕ → Bool
is_space b = b == 32 || (b == 9 || b == 13)

abbrev pub is_blank : List ℕ → Bool
is_blank line = nat_le (length line) LONGEST_LINE && list_all is_space line

-- the lines that get a reply: all but the blank ones
abbrev pub lines_with_reply : List (List ℕ) → List (List ℕ)
lines_with_reply ls = filter (λ line. not (is_blank line)) ls

-- a line, or one byte more of it than is looked at
abbrev pub line_up_to_limit : List ℕ → List ℕ
line_up_to_limit line = take (LONGEST_LINE + 1) line
