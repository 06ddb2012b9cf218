-- Where a text stands among weights.
use Rattle.std.specs.Prelude.{ℕ, ◌*◌, ◌/◌, ◌^◌, List}
use Rattle.fp_operators.specs.Murmur.{murmur}

-- the hash of the text, brought down to the numbers below a total
abbrev pub place_among : ℕ → List ℕ → ℕ
place_among total key = murmur key * total / 2 ^ 32
