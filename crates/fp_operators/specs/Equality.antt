-- When data are equal.
use Rattle.std.specs.Prelude.{ℤ, pos, Bool, true, false, not, ◌||◌, Option, Some, None, bytes_eq}
use Rattle.std.specs.Ordering.{int_eq}
use Rattle.fp_operators.specs.Data.{Data, null, boolean, whole, text}
use Rattle.fp_operators.specs.Numeral.{whole_number_of}

-- one kind and one value; lists and objects equal nothing
abbrev pub strict_equality : Data → Data → Bool
strict_equality null null = true
strict_equality (boolean true) (boolean c) = c
strict_equality (boolean false) (boolean c) = not c
strict_equality (whole z) (whole y) = int_eq z y
strict_equality (text s) (text t) = bytes_eq s t
strict_equality a b = false

-- the number that a text writes, and that true and false count as
abbrev pub number_meant : Data → Option ℤ
number_meant (text s) = whole_number_of s
number_meant (boolean true) = Some (pos 1)
number_meant (boolean false) = Some (pos 0)
number_meant d = None

abbrev pub is_number : Option ℤ → ℤ → Bool
is_number None y = false
is_number (Some x) y = int_eq x y

-- a text or a boolean beside the number that it means
abbrev pub stands_for : Data → Data → Bool
stands_for d (whole z) = is_number (number_meant d) z
stands_for d e = false

-- strictly equal, or one means the number that the other is
abbrev pub loose_equality : Data → Data → Bool
loose_equality a b = strict_equality a b || stands_for a b || stands_for b a
