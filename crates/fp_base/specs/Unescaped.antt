-- What JSON writes in a string as it is.
use Rattle.std.specs.Prelude.{ℕ, Bool, not, ◌||◌, ◌==◌, nat_lt}

-- a quote, a backslash or a control byte
abbrev pub is_escaped : ℕ → Bool
is_escaped b = (b == 34) || ((b == 92) || nat_lt b 32)

abbrev pub is_unescaped : ℕ → Bool
is_unescaped b = not (is_escaped b)
