-- What references may grow to.
use Rattle.std.specs.Prelude.{ℕ}

-- how deep evaluators stand in one another
abbrev pub MOST_REPLACEMENTS : ℕ
MOST_REPLACEMENTS = 8

-- values of a rule with all of them put in
abbrev pub MOST_EXPANDED_VALUES : ℕ
MOST_EXPANDED_VALUES = 16384
