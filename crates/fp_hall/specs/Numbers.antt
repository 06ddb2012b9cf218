-- How many a hall lends.
use Rattle.std.specs.Prelude.{ℕ}

abbrev pub most_evaluators : ℕ
most_evaluators = 16

abbrev pub most_seats : ℕ
most_seats = 32
