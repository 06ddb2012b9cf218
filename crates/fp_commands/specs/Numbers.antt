-- How large a set in memory may be.
use Rattle.std.specs.Prelude.{ℕ, ◌^◌}

-- bytes of its image
abbrev pub IMAGE_LIMIT : ℕ
IMAGE_LIMIT = 2 ^ 23
