-- Numbers that texts write in decimal digits.
use Rattle.std.specs.Prelude.{ℕ, ℤ, pos, neg_ℤ, ◌^◌, List, [], ◌∷◌, length, Bool, false, not, ◌&&◌}
use Rattle.std.specs.Prelude.{◌==◌, nat_le, nat_lt, Option, Some, None, if◌then◌else◌}
use Rattle.std.specs.Str.{all_ascii_digits}
use Rattle.std.specs.Str.Parse.{digits_value}

-- one decimal digit or more
abbrev pub is_numeral : List ℕ → Bool
is_numeral ds = all_ascii_digits ds && not (length ds == 0)

abbrev pub only_if : {A : Type 0} → Bool → A → Option A
only_if b z = if b then Some z else None

-- the whole number from -2^63 to 2^63-1 that a text writes: digits, perhaps behind a minus
abbrev pub whole_number_of : List ℕ → Option ℤ
whole_number_of [] = None
whole_number_of (b ∷ ds) =
    if b == 45 then only_if (is_numeral ds && nat_le (digits_value 10 ds) (2 ^ 63))
    (neg_ℤ (pos (digits_value 10 ds)))
    else only_if (is_numeral (b ∷ ds) && nat_lt (digits_value 10 (b ∷ ds)) (2 ^ 63))
    (pos (digits_value 10 (b ∷ ds)))

abbrev pub begins_with_plus : List ℕ → Bool
begins_with_plus [] = false
begins_with_plus (b ∷ bs) = b == 43

-- a zero before other digits
abbrev pub leads_with_zero : List ℕ → Bool
leads_with_zero [] = false
leads_with_zero (b ∷ []) = false
leads_with_zero (b ∷ c ∷ bs) = b == 48

-- a numeral with no zero before other digits; no list has 2^64 places
abbrev pub is_place : List ℕ → Bool
is_place bs = is_numeral bs && not (leads_with_zero bs) && nat_lt (digits_value 10 bs) (2 ^ 64)

-- the place of a list that a text writes
abbrev pub place_of : List ℕ → Option ℕ
place_of bs = only_if (is_place bs) (digits_value 10 bs)
