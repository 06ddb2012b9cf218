-- How data are ordered.
use Rattle.std.specs.Prelude.{ℕ, ℤ, List, Bool, Option, Some, None, option_map}
use Rattle.std.specs.Ordering.{nat_cmp, int_cmp, is_lt, is_le, is_some_and}
use Rattle.std.specs.Cmp.Lexicographic.{slice_cmp}
use Rattle.std.specs.declared.cmp.Ordering.{Ordering}
use Rattle.fp_operators.specs.Data.{Data, null, boolean, whole, text, list, object}
use Rattle.fp_operators.specs.Numeral.{whole_number_of}

-- what of a datum is compared: a number, a text with the number that it writes, or nothing of it
pub data Comparand : Type 0 where
  number : ℤ → Comparand
  words : List ℕ → Option ℤ → Comparand
  none : Comparand

abbrev pub comparand : Data → Comparand
comparand (whole z) = number z
comparand (text s) = words s (whole_number_of s)
comparand null = none
comparand (boolean b) = none
comparand (list ds) = none
comparand (object ms) = none

-- numbers by value, texts by their bytes, a number and a text that writes one by value
abbrev pub order_of : Comparand → Comparand → Option Ordering
order_of (number x) (number y) = Some (int_cmp x y)
order_of (words s m) (words t n) = Some (slice_cmp nat_cmp s t)
order_of (number x) (words t n) = option_map (λ y. int_cmp x y) n
order_of (words s m) (number y) = option_map (λ x. int_cmp x y) m
order_of p q = None

abbrev pub order : Data → Data → Option Ordering
order a b = order_of (comparand a) (comparand b)

-- what has no order is neither below nor above
abbrev pub is_below : Data → Data → Bool
is_below a b = is_some_and is_lt (order a b)

abbrev pub is_at_most : Data → Data → Bool
is_at_most a b = is_some_and is_le (order a b)
