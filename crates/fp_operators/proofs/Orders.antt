-- What the order of data is.
use Rattle.std.proofs.Common.{◌≡◌, ◌≢◌, ◌<ℤ◌, ℕ, ℤ, List, Bool, true, false, ◌||◌, bytes_eq, Option, Some, None}
use Rattle.std.proofs.Common.{is_some, option_map, Ordering, Less, Equal, Greater, is_lt, is_le, is_eq, int_cmp}
use Rattle.std.proofs.Common.{nat_cmp, refl, sym, ap, ◌∙◌, arith}
use Rattle.std.specs.Ordering.{ordering_reverse, int_eq, is_some_and, MatchOrdering}
use Rattle.std.specs.Cmp.Lexicographic.{slice_cmp}
use Rattle.std.proofs.lemmas.Int.{ints}
use Rattle.std.proofs.lemmas.Cmp.{int_cmp_total, nat_list_cmp_total, int_eq_equiv, int_ranked}
use Rattle.std.proofs.lemmas.Bool.Decides.{Decides-int_eq}
use Rattle.std.proofs.lemmas.Map.Text.{is_eq-slice_cmp}
use Rattle.fp_operators.specs.Data.{Data, whole, text}
use Rattle.fp_operators.specs.Numeral.{whole_number_of}
use Rattle.fp_operators.specs.Equality.{loose_equality, is_number}
use Rattle.fp_operators.specs.Order.{Comparand, number, words, none, comparand, order_of, order, is_below, is_at_most}
use Rattle.fp_operators.specs.Laws.{exactly_one}

reverse_right : (x : ℤ) (n : Option ℤ) → option_map (λ z. int_cmp z x) n ≡ option_map ordering_reverse (option_map (λ y. int_cmp x y) n)
reverse_right x None = refl
reverse_right x (Some y) = ap Some (int_cmp_total.antisymm y x)

reverse_left : (y : ℤ) (n : Option ℤ) → option_map (λ z. int_cmp y z) n ≡ option_map ordering_reverse (option_map (λ x. int_cmp x y) n)
reverse_left y None = refl
reverse_left y (Some x) = ap Some (int_cmp_total.antisymm y x)

order_of-reverse : (p q : Comparand) → order_of q p ≡ option_map ordering_reverse (order_of p q)
order_of-reverse (number x) (number y) = ap Some (int_cmp_total.antisymm y x)
order_of-reverse (number x) (words t n) = reverse_right x n
order_of-reverse (number x) none = refl
order_of-reverse (words s m) (number y) = reverse_left y m
order_of-reverse (words s m) (words t n) = ap Some (nat_list_cmp_total.antisymm t s)
order_of-reverse (words s m) none = refl
order_of-reverse none (number y) = refl
order_of-reverse none (words t n) = refl
order_of-reverse none none = refl

pub order_reverse : (a b : Data) → order b a ≡ option_map ordering_reverse (order a b)
order_reverse a b = order_of-reverse (comparand a) (comparand b)

unequal : (x y : ℤ) → x ≢ y → false ≡ int_eq x y
unequal x y h =
    elim (int_eq x y) as (λ t. int_eq x y ≡ t → false ≡ t) [
      | true ↦ λ e. absurd (h ((Decides-int_eq x y).0 e))
      | false ↦ λ e. refl
    ] refl

by_rank : (o : Ordering) (x y : ℤ) → MatchOrdering o (x <ℤ y) (x ≡ y) (y <ℤ x) → is_eq o ≡ int_eq x y
by_rank Less x y h = unequal x y (λ e. omega (arith, ints))
by_rank Equal x y h = sym ((Decides-int_eq x y).1 h)
by_rank Greater x y h = unequal x y (λ e. omega (arith, ints))

-- numbers tie where they are equal
int_equal : (x y : ℤ) → is_some_and is_eq (Some (int_cmp x y)) ≡ int_eq x y
int_equal x y = by_rank (int_cmp x y) x y (int_ranked x y (int_cmp x y) refl)

number_right : (x : ℤ) (n : Option ℤ) → is_some (option_map (λ y. int_cmp x y) n) ≡ true →
    is_some_and is_eq (option_map (λ y. int_cmp x y) n) ≡ is_number n x
number_right x None h = refl
number_right x (Some y) h = int_equal x y ∙ int_eq_equiv.symm x y

number_left : (y : ℤ) (n : Option ℤ) → is_some (option_map (λ x. int_cmp x y) n) ≡ true →
    is_some_and is_eq (option_map (λ x. int_cmp x y) n) ≡ is_number n y
number_left y None h = refl
number_left y (Some x) h = int_equal x y

or_nothing : (b : Bool) → b || false ≡ b
or_nothing true = refl
or_nothing false = refl

-- two data that have an order tie where they are loosely equal
pub order_equal : (a b : Data) → is_some (order a b) ≡ true → is_some_and is_eq (order a b) ≡ loose_equality a b
order_equal (whole x) (whole y) h = int_equal x y ∙ sym (or_nothing (int_eq x y || false) ∙ or_nothing (int_eq x y))
order_equal (whole x) (text t) h = number_right x (whole_number_of t) h
order_equal (text s) (whole y) h = number_left y (whole_number_of s) h ∙ sym (or_nothing (is_number (whole_number_of s) y))
order_equal (text s) (text t) h = is_eq-slice_cmp s t ∙ sym (or_nothing (bytes_eq s t || false) ∙ or_nothing (bytes_eq s t))
order_equal a b h = cc h

one_of : (o : Option Ordering) → is_some o ≡ true →
    exactly_one (is_some_and is_lt o) (is_some_and is_eq o) (is_some_and is_lt (option_map ordering_reverse o)) ≡ true
one_of None h = cc h
one_of (Some Less) h = refl
one_of (Some Equal) h = refl
one_of (Some Greater) h = refl

pub order_total : (a b : Data) → is_some (order a b) ≡ true → exactly_one (is_below a b) (loose_equality a b) (is_below b a) ≡ true
order_total a b h = rw (← order_equal a b h, order_reverse a b) (one_of (order a b) h)

up_to : (o : Option Ordering) → is_some_and is_le o ≡ (is_some_and is_lt o || is_some_and is_eq o)
up_to None = refl
up_to (Some Less) = refl
up_to (Some Equal) = refl
up_to (Some Greater) = refl

pub at_most_either : (a b : Data) → is_some (order a b) ≡ true → is_at_most a b ≡ (is_below a b || loose_equality a b)
at_most_either a b h = up_to (order a b) ∙ ap (λ e. is_below a b || e) (order_equal a b h)

pub less_is : (o : Ordering) → is_lt o ≡ true → o ≡ Less
less_is Less h = refl
less_is Equal h = cc h
less_is Greater h = cc h

pub numbers_ascend : (x y z : ℤ) → is_below (whole x) (whole y) ≡ true → is_below (whole y) (whole z) ≡ true →
    is_below (whole x) (whole z) ≡ true
numbers_ascend x y z h k = ap is_lt (int_cmp_total.trans x y z (less_is (int_cmp x y) h) (less_is (int_cmp y z) k))

pub texts_ascend : (s t u : List ℕ) → is_below (text s) (text t) ≡ true → is_below (text t) (text u) ≡ true →
    is_below (text s) (text u) ≡ true
texts_ascend s t u h k = ap is_lt (nat_list_cmp_total.trans s t u (less_is (slice_cmp nat_cmp s t) h) (less_is (slice_cmp nat_cmp t u) k))
