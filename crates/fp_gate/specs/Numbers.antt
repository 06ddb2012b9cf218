-- The byte of an open gate.
use Rattle.std.specs.Prelude.{ℕ}

-- a5 in hexadecimal: each other byte is a closed gate
abbrev pub OPEN : ℕ
OPEN = 165
