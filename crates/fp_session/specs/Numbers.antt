-- How many lines may wait for their replies.
use Rattle.std.specs.Prelude.{ℕ}

-- lines
abbrev pub MOST_WAITING : ℕ
MOST_WAITING = 1024
