-- What std's `parse` reads, as the number that a text writes.
use Rattle.std.proofs.Common.{get_or, not, ◌||◌, rules, ◌≡◌, ℕ, ℤ, pos, neg_ℤ, ◌^◌, ◌<◌, ◌≤◌, List, [], ◌∷◌, length}
use Rattle.std.proofs.Common.{Bool, true, false, ◌&&◌, ◌==◌, nat_le, nat_lt, Some, None, Result, Ok, Err, if◌then◌else◌}
use Rattle.std.proofs.Common.{w64, refl, sym, ap, ◌∙◌, arith}
use Rattle.std.specs.Char.{is_ascii_digit}
use Rattle.std.specs.List.{list_all}
use Rattle.std.specs.Str.{all_ascii_digits}
use Rattle.std.specs.Str.Parse.{digits_value, ParsesSigned, ParsesUnsigned}
use Rattle.std.specs.Result.{OkIff, result_ok}
use Rattle.std.proofs.lemmas.Str.Parse.{IsNumeralModel, numerals_by_value, tells_all_ascii_digits, parse_signed_minus}
use Rattle.std.proofs.lemmas.Str.Parse.{parse_signed_plain, parse_plain}
use Rattle.fp_operators.specs.Numeral.{begins_with_plus, leads_with_zero, is_numeral, only_if, whole_number_of, is_place, place_of}

pub numerals : IsNumeralModel (λ ds. all_ascii_digits ds ≡ true) (digits_value 10)
numerals = numerals_by_value (λ ds. all_ascii_digits ds ≡ true) tells_all_ascii_digits

-- a result that is there exactly where a test passes
by_test : {A E : Type 0} (r : Result A E) (P : Type 0) (v : A) (b : Bool) → OkIff r P v → (P → b ≡ true) →
    (b ≡ true → P) → result_ok r ≡ only_if b v
by_test (Ok x) P v b h f g = ap Some h.1 ∙ sym (ap (λ c. only_if c v) (f h.0))
by_test (Err e) P v true h f g = absurd (h (g refl))
by_test (Err e) P v false h f g = refl

to_below : (ds : List ℕ) (n m : ℕ) → (all_ascii_digits ds ≡ true) × (0 < length ds) × (n < m) → is_numeral ds && nat_lt n m ≡ true
to_below ds n m h = grind (arith, h.0, h.1, h.2)

from_below : (ds : List ℕ) (n m : ℕ) → is_numeral ds && nat_lt n m ≡ true → (all_ascii_digits ds ≡ true) × (0 < length ds) × (n < m)
from_below ds n m h = (grind (arith, h), grind (arith, h), grind (arith, h))

to_up_to : (ds : List ℕ) (n m : ℕ) → (all_ascii_digits ds ≡ true) × (0 < length ds) × (n ≤ m) → is_numeral ds && nat_le n m ≡ true
to_up_to ds n m h = grind (arith, h.0, h.1, h.2)

from_up_to : (ds : List ℕ) (n m : ℕ) → is_numeral ds && nat_le n m ≡ true → (all_ascii_digits ds ≡ true) × (0 < length ds) × (n ≤ m)
from_up_to ds n m h = (grind (arith, h), grind (arith, h), grind (arith, h))

-- a text that doesn't begin with a plus is read as it is told
pub reads_whole_number : {E : Type 0} (bs : List ℕ) (r : Result ℤ E) → ParsesSigned w64 10 bs r →
    begins_with_plus bs ≡ false → result_ok r ≡ whole_number_of bs
reads_whole_number [] r h no_plus =
    by_test r _ _ (is_numeral [] && nat_lt (digits_value 10 []) (2 ^ 63))
    (parse_signed_plain numerals w64 [] r h (λ e. omega (arith, e)) (λ e. omega (arith, e))) (to_below [] _ _)
    (from_below [] _ _)
reads_whole_number (b ∷ ds) r h no_plus =
    elim (b == 45) as (λ t. b == 45 ≡ t →
    result_ok r ≡ (if t then only_if (is_numeral ds && nat_le (digits_value 10 ds) (2 ^ 63))
    (neg_ℤ (pos (digits_value 10 ds))) else only_if
    (is_numeral (b ∷ ds) && nat_lt (digits_value 10 (b ∷ ds)) (2 ^ 63)) (pos (digits_value 10 (b ∷ ds))))) [
      | true ↦ λ e. by_test r _ _ _ (parse_signed_minus numerals w64 (b ∷ ds) r h (grind (arith, e))) (to_up_to ds _ _) (from_up_to ds _ _)
      | false ↦ λ e. by_test r _ _ _
          (parse_signed_plain numerals w64 (b ∷ ds) r h (λ m. grind (arith, no_plus, m)) (λ m. grind (arith, e, m)))
          (to_below (b ∷ ds) _ _) (from_below (b ∷ ds) _ _)
    ] refl

-- places
to_place : (bs : List ℕ) (v : ℕ) → leads_with_zero bs ≡ false → (all_ascii_digits bs ≡ true) × (0 < length bs) ×
    (v < 2 ^ 64) → is_numeral bs && not (leads_with_zero bs) && nat_lt v (2 ^ 64) ≡ true
to_place bs v z h = grind (arith, z, h.0, h.1, h.2)

from_place : (bs : List ℕ) (v : ℕ) → is_numeral bs && not (leads_with_zero bs) && nat_lt v (2 ^ 64) ≡ true →
    (all_ascii_digits bs ≡ true) × (0 < length bs) × (v < 2 ^ 64)
from_place bs v h = (grind (arith, h), grind (arith, h), grind (arith, h))

no_plus : (bs : List ℕ) → begins_with_plus bs ≡ false → get_or bs 0 0 ≡ 43 → ⊥
no_plus [] h e = omega (arith, e)
no_plus (b ∷ bs) h e = grind (arith, h, e)

neither : (a b : Bool) → a || b ≡ false → (a ≡ false) × (b ≡ false)
neither false b h = (refl, h)
neither true b h = absurd (search rules)

pub reads_place : {E : Type 0} (bs : List ℕ) (r : Result ℕ E) → ParsesUnsigned 64 10 bs r →
    begins_with_plus bs || leads_with_zero bs ≡ false → result_ok r ≡ place_of bs
reads_place bs r h k =
    let both = neither (begins_with_plus bs) (leads_with_zero bs) k in
    by_test r _ _ (is_place bs) (parse_plain numerals 64 bs r h (no_plus bs both.0))
    (to_place bs (digits_value 10 bs) both.1) (from_place bs (digits_value 10 bs))

second_false : (x y z : Bool) → y ≡ false → x && y && z ≡ false
second_false false y z h = refl
second_false true y z h = ap (λ b. b && z) h

pub no_place : (bs : List ℕ) → begins_with_plus bs || leads_with_zero bs ≡ true → None ≡ place_of bs
no_place [] h = refl
no_place (b ∷ []) h = let is : b ≡ 43 = grind (arith, h) in rw is refl
no_place (b ∷ c ∷ bs) h =
    elim (b == 43) as (λ t. b == 43 ≡ t → None ≡ place_of (b ∷ c ∷ bs)) [
      | true ↦ λ e. let is : b ≡ 43 = grind (arith, e) in rw is refl
      | false ↦ λ e.
          let zero_first : not (b == 48) ≡ false = grind (arith, h, e) in
          sym (ap (λ t. only_if t (digits_value 10 (b ∷ c ∷ bs)))
          (second_false (is_numeral (b ∷ c ∷ bs)) (not (b == 48))
          (nat_lt (digits_value 10 (b ∷ c ∷ bs)) (2 ^ 64)) zero_first))
    ] refl

-- a test of each byte
pub all_digits_tested : (bs : List ℕ) → list_all is_ascii_digit bs ≡ all_ascii_digits bs
all_digits_tested [] = refl
all_digits_tested (b ∷ bs) = ap (λ t. is_ascii_digit b && t) (all_digits_tested bs)
