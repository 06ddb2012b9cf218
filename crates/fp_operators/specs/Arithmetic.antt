-- Remainders.
use Rattle.std.specs.Prelude.{pos, int_rem, if◌then◌else◌}
use Rattle.std.specs.Ordering.{int_eq}
use Rattle.fp_operators.specs.Data.{Data, null, whole}

-- the remainder with the dividend's sign; null for a zero divisor and for other kinds
abbrev pub remainder_of : Data → Data → Data
remainder_of (whole x) (whole y) = if int_eq y (pos 0) then null else whole (int_rem x y)
remainder_of a b = null
