-- The numbers of rules, as trees.
use Rattle.std.specs.Prelude.{ℕ}

-- lists and objects of a rule stand in one another at most this deep
abbrev pub DEEPEST_RULE : ℕ
DEEPEST_RULE = 32

-- a weight of `fractional`, and what all weights of one come to: 2^31 - 1
abbrev pub GREATEST_WEIGHT : ℕ
GREATEST_WEIGHT = 2147483647
