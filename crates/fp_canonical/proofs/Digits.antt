-- Whole numbers and their digits.
use Rattle.std.proofs.Common.{◌≡◌, ◌≤◌, ◌<◌, ◌+◌, ◌*◌, ◌^◌, ℕ, ℤ, pos, negsuc, zero, suc, List, []}
use Rattle.std.proofs.Common.{◌∷◌, ◌++◌, length, get_or, drop, Some, None, Option, inl, inr, ◌⊎◌}
use Rattle.std.proofs.Common.{refl, sym, ap, subst, ◌∙◌, arith, true, false, Bool, is_some}
use Rattle.std.proofs.Common.{append_assoc, append-nil, length-append}
use Rattle.std.proofs.lemmas.Bool.{cases_lt, and_parts, ltb-true}
use Rattle.std.proofs.lemmas.List.{get_or-drop, length-drop, drop_more}
use Rattle.std.proofs.lemmas.Fmt.{decimal_is_IsNumeral, decimal_nonempty, first_decimal}
use Rattle.std.proofs.lemmas.Fmt.{decimal_injective, decimal_digit}
use Rattle.std.proofs.lemmas.Str.Parse.{digit_from_value}
use Rattle.std.specs.Bool.{⊤}
use Rattle.std.specs.Char.{digit_value}
use Rattle.std.specs.Fmt.{decimal, signed_decimal}
use Rattle.std.specs.Prelude.{if◌then◌else◌, nat_lt, slice_index, ◌==◌}
use Rattle.std.specs.Str.Parse.{AllDigits, digits_value, digits_value_after}
use Rattle.json.specs.Print.{IsNumber}
use Rattle.json.specs.Tree.{HasNumbers, ItemsHaveNumbers, MembersHaveNumbers}
use Rattle.json.proofs.Printed.Decimals.{IsNumber-decimal, IsNumber-signed_decimal}
use Rattle.std.specs.Prelude.{neg_ℤ}
use Rattle.serde_json.specs.Data.{Num, unsigned, negative, float, Data, null, boolean, number}
use Rattle.serde_json.specs.Data.{string, array, object, Items, no_items, item, Members, no_members}
use Rattle.serde_json.specs.Data.{member}
use Rattle.serde_json.specs.Find.{as_i64}
use Rattle.serde_json.specs.Read.{number_of, number_from, float_of}
use Rattle.serde_json.proofs.Numbers.{number_of-decimal, number_of-negative}
use Rattle.serde_json.specs.Written.{number_text, outline, items_outline, members_outline}
use Rattle.fp_base.specs.Ordered.{IsOrdered, IsWritten, AreOrdered, MembersAreOrdered}
use Rattle.fp_base.specs.Whole.{is_whole, items_whole, members_whole}
use Rattle.fp_base.proofs.Numerals.{decimal-more}
use Rattle.fp_canonical.specs.Reads.{Ends}

-- ---- digits, one after another

no_less : (n : ℕ) (ds : List ℕ) → n ≤ digits_value_after 10 n ds
no_less n [] = omega arith
no_less n (c ∷ cs) = omega (arith, no_less (n * 10 + digit_value c) cs)

value_append : (n : ℕ) (xs ys : List ℕ) → digits_value_after 10 n (xs ++ ys) ≡ digits_value_after 10 (digits_value_after 10 n xs) ys
value_append n [] ys = refl
value_append n (x ∷ xs) ys = value_append (n * 10 + digit_value x) xs ys

-- a number whose digits begin those of another is some tenth of it at most, and not nought
pub front_of : (n m x : ℕ) (rest : List ℕ) → n < 2 ^ 64 → m < 2 ^ 64 → decimal n ≡ decimal m ++ x ∷ rest → (0 < m) × (m * 10 ≤ n)
front_of n m x rest small low same = (some (cases_lt 0 m), tenth)
  where
    value : n ≡ digits_value_after 10 (m * 10 + digit_value x) rest
    value = sym (decimal_is_IsNumeral n small).1 ∙ ap (digits_value 10) same ∙ value_append 0 (decimal m) (x ∷ rest)
        ∙ ap (λ v. digits_value_after 10 v (x ∷ rest)) (decimal_is_IsNumeral m low).1

    tenth : m * 10 ≤ n
    tenth = omega (arith, value, no_less (m * 10 + digit_value x) rest)

    nought : m ≡ 0 → (0 < n) ⊎ (n ≤ 0) → ⊥
    nought is (inl a) =
        let front = ap (λ k. decimal k ++ x ∷ rest) is ∙ ap (λ l. l ++ x ∷ rest) (decimal_digit 0 (omega arith)) in
        omega (arith, first_decimal n a small, ap (λ l. get_or l 0 0) (same ∙ front))
    nought is (inr b) =
        let none : n ≡ 0 = omega (arith, b) in
        omega (arith, ap length (ap decimal (sym none) ∙ same ∙ ap (λ k. decimal k ++ x ∷ rest) is), length-append (decimal 0) (x ∷ rest))

    some : (0 < m) ⊎ (m ≤ 0) → 0 < m
    some (inl a) = a
    some (inr b) = absurd (nought (omega (arith, b)) (cases_lt 0 n))

all_digits : (n : ℕ) → n ≤ 2 ^ 63 → AllDigits 10 (decimal n)
all_digits n small = (decimal_is_IsNumeral n (omega (arith, small))).0.1

digits_end : (xs ys zs : List ℕ) → xs ≡ ys ++ zs → AllDigits 10 xs → AllDigits 10 zs
digits_end xs [] zs same d = subst (AllDigits 10) same d
digits_end [] (y ∷ ys) zs same d = absurd (omega (arith, ap length same))
digits_end (x ∷ xs) (y ∷ ys) zs same d = digits_end xs ys zs (ap (drop 1) same) d.1

-- no digit is at the beginning
abbrev IsNoDigit : ℕ → Type 0
IsNoDigit b = 48 ≤ b → 57 < b

-- what is left of the digits of n behind those of m, and what follows them
pub record IsLeft (n m : ℕ) (rest left : List ℕ) : Type 0 where
  pub more : List ℕ
  pub digits : decimal n ≡ decimal m ++ more
  pub here : rest ≡ more ++ left

module _ (n : ℕ) (left : List ℕ) (small : n ≤ 2 ^ 63) where
  -- the first digit
  pub digit_first : (bytes : List ℕ) → bytes ≡ decimal n ++ left → (0 < length bytes) × (48 ≤ get_or bytes 0 0) × (get_or bytes 0 0 ≤ 57)
  digit_first bytes is = by (decimal n) refl (all_digits n small) (decimal_nonempty n (omega (arith, small)))
    where
      by : (ds : List ℕ) → ds ≡ decimal n → AllDigits 10 ds → 0 < length (decimal n) →
          (0 < length bytes) × (48 ≤ get_or bytes 0 0) × (get_or bytes 0 0 ≤ 57)
      by [] e d some = absurd (omega (arith, ap length e))
      by (x ∷ xs) e d some =
          let whole : bytes ≡ x ∷ (xs ++ left) = is ∙ ap (λ l. l ++ left) (sym e) in
          let range = digit_from_value x d.0 in
          let same = ap (λ l. get_or l 0 0) whole in
          (omega (arith, ap length whole), omega (arith, range, same), omega (arith, range, same))

  pub left_first : (bytes : List ℕ) (d : ℕ) → bytes ≡ decimal n ++ left → d < 10 → get_or bytes 0 0 ≡ 48 + d →
      IsLeft n d (drop 1 bytes) left
  left_first bytes d is low first = by (decimal n) refl
    where
      by : (ds : List ℕ) → ds ≡ decimal n → IsLeft n d (drop 1 bytes) left
      by [] e = absurd (omega (arith, ap length e, decimal_nonempty n (omega (arith, small))))
      by (x ∷ xs) e =
          let whole : bytes ≡ x ∷ (xs ++ left) = is ∙ ap (λ l. l ++ left) (sym e) in
          let head : x ≡ 48 + d = sym (ap (λ l. get_or l 0 0) whole) ∙ first in
          record {
            more = xs;
            digits = sym e ∙ ap (λ b. b ∷ xs) head ∙ ap (λ l. l ++ xs) (sym (decimal_digit d low));
            here = ap (drop 1) whole;
          }

  module _ (bytes : List ℕ) (m at : ℕ) (ends : Ends left) (low : m < 2 ^ 64) (l : IsLeft n m (drop at bytes) left) where
    byte : (b : ℕ) (bs : List ℕ) → drop at bytes ≡ b ∷ bs → get_or bytes at 0 ≡ b
    byte b bs is =
        let on : at + 0 ≡ at = omega arith in
        ap (λ i. get_or bytes i 0) (sym on) ∙ sym (get_or-drop at bytes 0 0) ∙ ap (λ r. get_or r 0 0) is

    no_digit : (zs : List ℕ) → drop at bytes ≡ zs → Ends zs → at < length bytes → IsNoDigit (get_or bytes at 0)
    no_digit [] is e within = absurd (omega (arith, within, ap length is, length-drop at bytes))
    no_digit (z ∷ zs) is e within = subst IsNoDigit (sym (byte z zs is)) e

    -- a digit more
    pub left_on : (d : ℕ) → at < length bytes → d < 10 → get_or bytes at 0 ≡ 48 + d →
        (0 < m) × (m * 10 ≤ n) × IsLeft n (m * 10 + d) (drop (at + 1) bytes) left
    left_on d within small_d is = by l.more l.digits l.here
      where
        by : (more : List ℕ) → decimal n ≡ decimal m ++ more → drop at bytes ≡ more ++ left →
            (0 < m) × (m * 10 ≤ n) × IsLeft n (m * 10 + d) (drop (at + 1) bytes) left
        by [] digits here = absurd (omega (arith, is, small_d, no_digit left here ends within (omega (arith, is))))
        by (z ∷ zs) digits here =
            let front = front_of n m z zs (omega (arith, small)) low digits in
            let head : z ≡ 48 + d = sym (byte z (zs ++ left) here) ∙ is in (
              front.0,
              front.1,
              record {
                more = zs;
                digits = digits ∙ ap (λ b. decimal m ++ b ∷ zs) head ∙ sym (append_assoc (decimal m) ((48 + d) ∷ []) zs)
                    ∙ ap (λ l. l ++ zs) (sym (decimal-more m d front.0 small_d (omega (arith, front.1, small, small_d))));
                here = ap (drop 1) (sym (drop_more bytes at 0 within) ∙ here);
              },
            )

    -- no digit more
    pub left_none : (at < length bytes → IsNoDigit (get_or bytes at 0)) → (m ≡ n) × (drop at bytes ≡ left)
    left_none none = by l.more l.digits l.here
      where
        by : (more : List ℕ) → decimal n ≡ decimal m ++ more → drop at bytes ≡ more ++ left → (m ≡ n) × (drop at bytes ≡ left)
        by [] digits here = (sym (decimal_injective n m (omega (arith, small)) low (digits ∙ append-nil (decimal m))), here)
        by (z ∷ zs) digits here =
            let range = digit_from_value z (digits_end (decimal n) (decimal m) (z ∷ zs) digits (all_digits n small)).0 in
            let same = byte z (zs ++ left) here in
            let within : at < length bytes = omega (arith, ap length here, length-drop at bytes) in
            absurd (omega (arith, range, same, none within (omega (arith, range, same))))

-- ---- numbers that are whole

abbrev IsLow : ℤ → Type 0
IsLow z = (m : ℕ) × (z ≡ negsuc m) × (m < 2 ^ 63)

low_size : (n : ℕ) (z : ℤ) → 0 < n → n ≤ 2 ^ 63 → neg_ℤ (pos n) ≡ z → IsLow z
low_size zero z some fits is = absurd (omega arith)
low_size (suc m) z some fits is = (m, sym is, omega arith)

-- what a number is read as
abbrev pub IsRead : Num → Type 0
IsRead (unsigned n) = n < 2 ^ 64
IsRead (negative z) = IsLow z
IsRead (float x) = ⊤

float_read : (sign : Bool) (p : _) (n : Num) → float_of sign p ≡ Some n → IsRead n
float_read sign p n h = grind arith

from_read : (sign : Bool) (p : _) (n : Num) → number_from sign p ≡ Some n → IsRead n
from_read false p n h = grind (arith, float_read)
from_read true p n h = grind (arith, float_read, low_size)

side_read : (c : Bool) (a b : Option Num) (n : Num) → (a ≡ Some n → IsRead n) → (b ≡ Some n → IsRead n) →
    (if c then a else b) ≡ Some n → IsRead n
side_read true a b n f g h = f h
side_read false a b n f g h = g h

pub number_read : (s : List ℕ) (n : Num) → number_of s ≡ Some n → IsRead n
unfolding number_of
number_read s n h = side_read (slice_index s 0 == 45) _ _ n (search from_read) (search from_read) h

-- and what is written of it is read as it
pub read_written : (s : List ℕ) (n : Num) → number_of s ≡ Some n → IsWritten n
read_written s n h = go n (number_read s n h)
  where
    go : (n : Num) → IsRead n → IsWritten n
    go (unsigned m) r = λ whole. number_of-decimal m r
    go (negative z) r = λ whole. subst (λ y. number_of (signed_decimal y) ≡ Some (negative y)) (sym r.1) (number_of-negative r.0 r.2)
    go (float x) r = λ whole. absurd (cc)

low_negative : (s : List ℕ) (z : ℤ) → number_of s ≡ Some (negative z) → IsLow z
low_negative s z h = number_read s (negative z) h

-- one at or above nought, or one below, as an i64 has them
abbrev pub IsEither : Num → Type 0
IsEither n = ((m : ℕ) × (n ≡ unsigned m) × (m < 2 ^ 63)) ⊎ ((m : ℕ) × (n ≡ negative (negsuc m)) × (m < 2 ^ 63))

pub either : (n : Num) → IsWritten n → is_some (as_i64 n) ≡ true → IsEither n
either (unsigned m) written whole = inl (m, refl, below (nat_lt m (2 ^ 63)) refl whole)
  where
    below : (b : Bool) → nat_lt m (2 ^ 63) ≡ b → is_some (if b then Some (pos m) else None) ≡ true → m < 2 ^ 63
    below true e h = ltb-true m (2 ^ 63) e
    below false e h = absurd (cc)
either (negative z) written whole = let low = low_negative (signed_decimal z) z (written refl) in inr (low.0, ap negative low.1, low.2)
either (float x) written whole = absurd (cc)

-- a number below nought, by its sign
pub below : (n : Num) (left text rest : List ℕ) → IsEither n → text ≡ number_text n ++ left → text ≡ 45 ∷ rest →
    (m : ℕ) × (m < 2 ^ 63) × (rest ≡ decimal (suc m) ++ left)
below n left text rest (inl p) is sign =
    let first = digit_first p.0 left (omega (arith, p.2)) text (is ∙ ap (λ x. number_text x ++ left) p.1) in
    absurd (omega (arith, first, ap (λ l. get_or l 0 0) sign))
below n left text rest (inr p) is sign = (p.0, p.2, ap (drop 1) (sym sign ∙ is ∙ ap (λ x. number_text x ++ left) p.1))

pub above : (n : Num) (left text : List ℕ) → IsEither n → text ≡ number_text n ++ left → ((rest : List ℕ) → text ≡ 45 ∷ rest → ⊥) →
    (m : ℕ) × (m < 2 ^ 63) × (text ≡ decimal m ++ left)
above n left text (inl p) is sign = (p.0, p.2, is ∙ ap (λ x. number_text x ++ left) p.1)
above n left text (inr p) is sign = absurd (sign (decimal (suc p.0) ++ left) (is ∙ ap (λ x. number_text x ++ left) p.1))

has_number : (n : Num) → IsEither n → IsNumber (number_text n)
has_number n (inl p) = subst (λ x. IsNumber (number_text x)) (sym p.1) (IsNumber-decimal p.0 (omega (arith, p.2)))
has_number n (inr p) = subst (λ x. IsNumber (number_text x)) (sym p.1) (IsNumber-signed_decimal (negsuc p.0) (omega (arith, p.2)))

mutual
  pub has_numbers : (d : Data) → IsOrdered d → is_whole d ≡ true → HasNumbers (outline d)
  has_numbers null o w = tt
  has_numbers (boolean b) o w = tt
  has_numbers (number n) o w = has_number n (either n o w)
  has_numbers (string s) o w = tt
  has_numbers (array ds) o w = have_numbers ds o w
  has_numbers (object ms) o w = members_have_numbers ms o.1 w

  pub have_numbers : (ds : Items) → AreOrdered ds → items_whole ds ≡ true → ItemsHaveNumbers (items_outline ds)
  have_numbers no_items o w = tt
  have_numbers (item d ds) o w =
      let both = and_parts (is_whole d) (items_whole ds) w in (has_numbers d o.0 both.0, have_numbers ds o.1 both.1)

  pub members_have_numbers : (ms : Members) → MembersAreOrdered ms → members_whole ms ≡ true → MembersHaveNumbers (members_outline ms)
  members_have_numbers no_members o w = tt
  members_have_numbers (member k d ms) o w =
      let both = and_parts (is_whole d) (members_whole ms) w in (has_numbers d o.0 both.0, members_have_numbers ms o.1 both.1)
