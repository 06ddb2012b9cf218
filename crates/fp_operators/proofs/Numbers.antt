-- Numbers, their decimal texts and their remainders.
use Rattle.std.proofs.Common.{◌≡◌, ◌≢◌, ℕ, zero, suc, ◌<◌, ◌≤◌, ◌^◌, ◌%◌, ℤ, pos, negsuc, neg_ℤ, ◌≤ℤ◌, List, [], ◌∷◌}
use Rattle.std.proofs.Common.{length, true, false, ◌&&◌, ◌==◌, nat_le, nat_lt, Some, if◌then◌else◌, w64, refl, ap, ◌∙◌}
use Rattle.std.proofs.Common.{arith}
use Rattle.std.proofs.Math.Nat.{zero-mod}
use Rattle.std.specs.Prelude.{FitsSigned, int_rem, int_div, unsigned_abs}
use Rattle.std.specs.Ordering.{int_eq}
use Rattle.std.specs.Fmt.{decimal, signed_decimal}
use Rattle.std.specs.Str.{all_ascii_digits}
use Rattle.std.specs.Str.Parse.{digits_value}
use Rattle.std.proofs.lemmas.Int.{ints, quot-rem, rem_below}
use Rattle.std.proofs.lemmas.Fmt.{digits_decimal, digits_value-decimal, decimal_is_IsNumeral}
use Rattle.std.proofs.lemmas.Bool.Decides.{Decides-int_eq}
use Rattle.fp_operators.specs.Data.{null, whole}
use Rattle.fp_operators.specs.Numeral.{is_numeral, only_if, whole_number_of}
use Rattle.fp_operators.specs.Arithmetic.{remainder_of}
use Rattle.fp_operators.specs.Laws.{IsRemainder}
use Rattle.fp_operators.proofs.Numerals.{numerals}

numeral_decimal : (n : ℕ) → n < 2 ^ 64 → is_numeral (decimal n) ≡ true
numeral_decimal n h =
    let digits : all_ascii_digits (decimal n) ≡ true = digits_decimal numerals n h in
    let some : 0 < length (decimal n) = (decimal_is_IsNumeral n h).0.0 in grind (arith, digits, some)

-- digits alone are read as their value
unsigned_text : (bs : List ℕ) → is_numeral bs ≡ true → digits_value 10 bs < 2 ^ 63 → whole_number_of bs ≡ Some (pos (digits_value 10 bs))
unsigned_text [] h k = cc h
unsigned_text (b ∷ ds) h k =
    elim (b == 45) as (λ t. b == 45 ≡ t →
    (if t then only_if (is_numeral ds && nat_le (digits_value 10 ds) (2 ^ 63)) (neg_ℤ (pos (digits_value 10 ds)))
    else only_if (is_numeral (b ∷ ds) && nat_lt (digits_value 10 (b ∷ ds)) (2 ^ 63))
    (pos (digits_value 10 (b ∷ ds)))) ≡ Some (pos (digits_value 10 (b ∷ ds)))) [
      | true ↦ λ e. let is : b ≡ 45 = grind (arith, e) in let none : false ≡ true = rw is at h in cc none
      | false ↦ λ e. let below : is_numeral (b ∷ ds) && nat_lt (digits_value 10 (b ∷ ds)) (2 ^ 63) ≡ true =
          grind (arith, h, k) in ap (λ t. only_if t (pos (digits_value 10 (b ∷ ds)))) below
    ] refl

pub decimal_reads_back : (z : ℤ) → FitsSigned w64 z → whole_number_of (signed_decimal z) ≡ Some z
decimal_reads_back (pos n) h =
    let small : n < 2 ^ 63 = omega (arith, ints, h.sfits) in
    let value : digits_value 10 (decimal n) ≡ n = digits_value-decimal numerals n (omega arith) in
    unsigned_text (decimal n) (numeral_decimal n (omega arith)) (omega arith) ∙ ap (λ m. Some (pos m)) value
decimal_reads_back (negsuc n) h =
    let small : suc n ≤ 2 ^ 63 = omega (arith, ints, h.sfits) in
    let value : digits_value 10 (decimal (suc n)) ≡ suc n = digits_value-decimal numerals (suc n) (omega arith) in
    let passes : is_numeral (decimal (suc n)) && nat_le (digits_value 10 (decimal (suc n))) (2 ^ 63) ≡ true =
    grind (arith, numeral_decimal (suc n) (omega arith), small, value) in
    ap (λ t. only_if t (neg_ℤ (pos (digits_value 10 (decimal (suc n)))))) passes ∙ ap (λ m. Some (neg_ℤ (pos m))) value

-- remainders
has_remainder : (x y : ℤ) → y ≢ pos 0 → remainder_of (whole x) (whole y) ≡ whole (int_rem x y)
has_remainder x y h =
    elim (int_eq y (pos 0)) as (λ t. int_eq y (pos 0) ≡ t → (if t then null else whole (int_rem x y)) ≡ whole (int_rem x y)) [
      | true ↦ λ e. absurd (h ((Decides-int_eq y (pos 0)).0 e))
      | false ↦ λ e. refl
    ] refl

not_negative : (x y : ℤ) → pos 0 ≤ℤ x → pos 0 ≤ℤ int_rem x y
not_negative (pos a) y h = omega (arith, ints)
not_negative (negsuc a) y h = absurd (omega (arith, ints))

negated : (n : ℕ) → neg_ℤ (pos n) ≤ℤ pos 0
negated zero = omega (arith, ints)
negated (suc n) = omega (arith, ints)

not_positive : (x y : ℤ) → x ≤ℤ pos 0 → int_rem x y ≤ℤ pos 0
not_positive (pos zero) y h = omega (arith, ints, zero-mod (unsigned_abs y))
not_positive (pos (suc a)) y h = absurd (omega (arith, ints))
not_positive (negsuc a) y h = negated (suc a % unsigned_abs y)

some_divisor : (y : ℤ) → y ≢ pos 0 → 0 < unsigned_abs y
some_divisor (pos zero) h = absurd (h refl)
some_divisor (pos (suc n)) h = omega (arith, ints)
some_divisor (negsuc n) h = omega (arith, ints)

pub remainder_exact : (x y : ℤ) → y ≢ pos 0 → (r : ℤ) × (remainder_of (whole x) (whole y) ≡ whole r) × IsRemainder x y r
remainder_exact x y h = (
  int_rem x y,
  has_remainder x y h,
  record {
    divides = (int_div x y, quot-rem x y);
    smaller = rem_below x y (some_divisor y h);
    not_negative = not_negative x y;
    not_positive = not_positive x y;
  },
)
