-- The numbers of rules, as JSON writes them, and of data.
use Rattle.std.specs.Prelude.{ℕ}

-- JSON values of a rule
abbrev pub MOST_RULE_VALUES : ℕ
MOST_RULE_VALUES = 1024

-- bytes of a flag's key that data have room for
abbrev pub ROOM_FOR_A_KEY : ℕ
ROOM_FOR_A_KEY = 256
