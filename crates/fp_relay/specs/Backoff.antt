-- Before a source is tried again.
use Rattle.std.specs.Prelude.{ℕ, ◌*◌, ◌^◌, min}

-- nanoseconds of a tenth of a second, and of five seconds
abbrev pub FIRST : ℕ
FIRST = 100000000

abbrev pub MOST : ℕ
MOST = 5000000000

-- a tenth of a second, doubled for each failure before, and five seconds at most
abbrev pub base : ℕ → ℕ
base failures = min (FIRST * 2 ^ failures) MOST
