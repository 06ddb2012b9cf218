-- How many edits may wait.
use Rattle.std.specs.Prelude.{ℕ}

-- edits of a queue
abbrev pub MOST_QUEUED : ℕ
MOST_QUEUED = 1024
