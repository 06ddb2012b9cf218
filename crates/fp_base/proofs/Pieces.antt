-- Text in pieces: what passes ASCII many bytes at a time, and where a text may be cut.
use Rattle.std.proofs.Common.{◌≡◌, ◌<◌, ◌≤◌, ◌+◌, ◌-◌, ◌*◌, ◌%◌, ◌^◌, nat_le, nat_lt, ℕ, Bool, true, false, not, cond, suc, List, [], ◌∷◌}
use Rattle.std.proofs.Common.{length, map, replicate, take, drop, get_or, bit_or, inl, inr, ◌⊎◌, refl, sym, ap, ap₂, subst, ◌∙◌, arith}
use Rattle.std.proofs.Common.{Result, Ok, Err, true≢false}
use Rattle.std.proofs.Math.Seq.{take-add}
use Rattle.std.proofs.lemmas.Bool.{cases_lt, leb-false, ltb-true, not-false, not-true}
use Rattle.std.proofs.lemmas.List.{get_or-drop, get_or-take, get_or_past, length-map, length-take}
use Rattle.std.proofs.lemmas.List.Sums.{prefix_len_passes, prefix_len_stops}
use Rattle.std.proofs.lemmas.Nat.{le_or_l, le_or_r}
use Rattle.std.proofs.lemmas.Simd.{get_or-chunk, get_or-zip2, leading_from_mask_l, length-chunk, length-zip2, mask_l-mod}
use Rattle.std.proofs.lemmas.Simd.{run_in_chunk_fails, run_in_chunk_le, trailing_mask_l}
use Rattle.std.proofs.lemmas.Str.{IsCharBoundary-before_ascii, IsCharBoundary-end, IsCharBoundary-from_take}
use Rattle.std.proofs.lemmas.Str.{IsUtf8-append, IsUtf8-between, IsUtf8-from_ascii}
use Rattle.std.specs.List.{prefix_len}
use Rattle.std.specs.Prelude.{MatchResult}
use Rattle.std.specs.Result.{is_err}
use Rattle.std.specs.Str.{IsCharBoundary, IsUtf8}
use lib.Count.{count_trailing_zeros}
use lib.Lanes.{chunk, mask_l, top, zip2}

-- ---- lanes

abbrev pub at_least : ℕ → ℕ → ℕ
at_least a b = cond (nat_le a b) 255 0

top_of : (b : Bool) → top 7 (cond b 255 0) ≡ b
top_of true = refl
top_of false = refl

tops : (v : List ℕ) → map (top 7) (zip2 at_least (replicate (length v) 128) v) ≡ map (nat_le 128) v
tops [] = refl
tops (x ∷ xs) = ap₂ (λ b bs. b ∷ bs) (top_of (nat_le 128 x)) (tops xs)

-- a bit for each byte that isn't ASCII
pub foreign_bits : (v : List ℕ) (n : ℕ) → length v ≡ n → n ≤ 64 →
    mask_l (map (top 7) (zip2 at_least (replicate n 128) v)) % 2 ^ 64 ≡ mask_l (map (nat_le 128) v)
foreign_bits v n long few =
    ap (λ k. mask_l (map (top 7) (zip2 at_least (replicate k 128) v)) % 2 ^ 64) (sym long) ∙ ap (λ bs. mask_l bs % 2 ^ 64) (tops v)
    ∙ mask_l-mod (map (nat_le 128) v) 64 (omega (arith, length-map v (nat_le 128)))

-- where a bit is set, some byte passes
some_set : (b : Bool) (n l m : ℕ) → 0 < cond b 1 0 + 2 * m → (0 < m → n < l) → cond (not b) (1 + n) 0 < suc l
some_set true n l m some h = omega arith
some_set false n l m some h = omega (arith, h (omega arith))

module _ (p : ℕ → Bool) where
  pub stops_within : (xs : List ℕ) → 0 < mask_l (map p xs) → prefix_len (λ x. not (p x)) xs < length xs
  stops_within [] some = absurd (omega arith)
  stops_within (x ∷ xs) some = some_set (p x) (prefix_len (λ y. not (p y)) xs) (length xs) (mask_l (map p xs)) some (stops_within xs)

-- ---- ASCII so far

abbrev pub Ascii : List ℕ → ℕ → ℕ → Type 0
Ascii bytes from end = (k : ℕ) → from ≤ k → k < end → get_or bytes k 0 < 128

pub ascii_on : (bytes : List ℕ) (from end next : ℕ) → Ascii bytes from end →
    ((k : ℕ) → end ≤ k → k < next → nat_le 128 (get_or bytes k 0) ≡ false) → Ascii bytes from next
ascii_on bytes from end next before here k low high = go (cases_lt k end)
  where
    go : (k < end) ⊎ (end ≤ k) → get_or bytes k 0 < 128
    go (inl l) = before k low l
    go (inr r) = leb-false 128 (get_or bytes k 0) (here k r high)

-- up to the first byte that isn't ASCII
pub ascii_stops : (bytes : List ℕ) (from end n : ℕ) → end + n ≤ length bytes → n ≤ 64 → Ascii bytes from end →
    0 < mask_l (map (nat_le 128) (chunk end n bytes)) →
    (count_trailing_zeros 64 (mask_l (map (nat_le 128) (chunk end n bytes))) ≤ n)
    × Ascii bytes from (end + count_trailing_zeros 64 (mask_l (map (nat_le 128) (chunk end n bytes))))
ascii_stops bytes from end n room few before some =
    let v = chunk end n bytes in
    let r = count_trailing_zeros 64 (mask_l (map (nat_le 128) v)) in
    let counted = trailing_mask_l (nat_le 128) 64 v (omega (arith, length-chunk end n bytes room)) some in (
      run_in_chunk_le (nat_le 128) bytes end n r 0 room counted,
      ascii_on bytes from end (end + r) before (run_in_chunk_fails (nat_le 128) bytes end n r 0 room counted),
    )

-- ---- ASCII bytes side by side

-- where the bytes behind each are looked at with it
pub ascii_found : (bytes behind : List ℕ) (end n : ℕ) → end + n ≤ length bytes → length behind ≡ n → n ≤ 64 →
    0 < mask_l (map (λ b. nat_lt b 128) (zip2 bit_or (chunk end n bytes) behind)) →
    (count_trailing_zeros 64 (mask_l (map (λ b. nat_lt b 128) (zip2 bit_or (chunk end n bytes) behind))) < n)
    × (get_or bytes (end + count_trailing_zeros 64 (mask_l (map (λ b. nat_lt b 128) (zip2 bit_or (chunk end n bytes) behind)))) 0 < 128)
ascii_found bytes behind end n room long_b few some =
    let a = chunk end n bytes in
    let v = zip2 bit_or a behind in
    let low = λ (x : ℕ). nat_lt x 128 in
    let r = count_trailing_zeros 64 (mask_l (map low v)) in
    let long_a : length a ≡ n = length-chunk end n bytes room in
    let long : length v ≡ n = omega (arith, length-zip2 bit_or a behind (long_a ∙ sym long_b), long_a) in
    let counted : r ≡ prefix_len (λ x. not (low x)) v = trailing_mask_l low 64 v (omega (arith, long)) some in
    let stop : prefix_len (λ x. not (low x)) v < length v = stops_within low v some in
    let within : r < n = omega (arith, counted, stop, long) in
    let is_low : get_or v r 0 < 128 =
    subst (λ k. get_or v k 0 < 128) (sym counted)
    (ltb-true (get_or v (prefix_len (λ x. not (low x)) v) 0) 128 (not-false _ (prefix_len_stops (λ x. not (low x)) v 0 stop))) in
    let both = get_or-zip2 bit_or a behind r 0 0 0 (omega (arith, within, long_a)) (omega (arith, within, long_b)) in
    let first = get_or-chunk end n bytes r 0 within in (
      within,
      omega (arith, is_low, both, first, le_or_l (get_or a r 0) (get_or behind r 0)),
    )

pub length-either : (xs ys : List ℕ) (n : ℕ) → length xs ≡ n → length ys ≡ n → length (zip2 bit_or xs ys) ≡ n
length-either xs ys n p q = length-zip2 bit_or xs ys (p ∙ sym q) ∙ p

-- ---- ASCII bytes in four vectors at once

ascii_joined : (bytes : List ℕ) (from mid next stop end : ℕ) → next ≤ mid → end ≤ stop → Ascii bytes from mid → Ascii bytes next stop →
    Ascii bytes from end
ascii_joined bytes from mid next stop end meet far before behind k on l = go (cases_lt k mid)
  where
    go : (k < mid) ⊎ (mid ≤ k) → get_or bytes k 0 < 128
    go (inl under) = before k on under
    go (inr over) = behind k (omega (arith, meet, over)) (omega (arith, far, l))

-- where no bit is set
ascii_lanes : (v : List ℕ) → mask_l (map (nat_le 128) v) ≡ 0 → Ascii v 0 (length v)
ascii_lanes v none k on l =
    let passed = prefix_len_passes (λ x. not (nat_le 128 x)) v k 0 (omega (arith, l, leading_from_mask_l (nat_le 128) v none)) in
    leb-false 128 (get_or v k 0) (not-true _ passed)

-- where the or of two is ASCII, both are
ascii_each : (xs ys : List ℕ) (n : ℕ) → length xs ≡ n → length ys ≡ n → Ascii (zip2 bit_or xs ys) 0 n → Ascii xs 0 n × Ascii ys 0 n
ascii_each xs ys n long_x long_y low = (
  λ k on l. omega (arith, low k on l, lane k l, le_or_l (get_or xs k 0) (get_or ys k 0)),
  λ k on l. omega (arith, low k on l, lane k l, le_or_r (get_or xs k 0) (get_or ys k 0)),
)
  where
    lane : (k : ℕ) → k < n → get_or (zip2 bit_or xs ys) k 0 ≡ bit_or (get_or xs k 0) (get_or ys k 0)
    lane k l = get_or-zip2 bit_or xs ys k 0 0 0 (omega (arith, l, long_x)) (omega (arith, l, long_y))

ascii_chunk : (bytes : List ℕ) (from n : ℕ) → Ascii (chunk from n bytes) 0 n → Ascii bytes from (from + n)
ascii_chunk bytes from n low k on l =
    let back : from + (k - from) ≡ k = omega (arith, on) in
    let inside : k - from < n = omega (arith, on, l) in
    let here = get_or-chunk from n bytes (k - from) 0 inside ∙ ap (λ j. get_or bytes j 0) back in
    subst (λ b. b < 128) here (low (k - from) (omega arith) inside)

abbrev pub two_at : List ℕ → ℕ → ℕ → List ℕ
two_at bytes i j = zip2 bit_or (chunk i 16 bytes) (chunk j 16 bytes)

length-two_at : (bytes : List ℕ) (i j : ℕ) → i + 16 ≤ length bytes → j + 16 ≤ length bytes → length (two_at bytes i j) ≡ 16
length-two_at bytes i j room_i room_j =
    length-either (chunk i 16 bytes) (chunk j 16 bytes) 16 (length-chunk i 16 bytes room_i) (length-chunk j 16 bytes room_j)

ascii_two : (bytes : List ℕ) (i j : ℕ) → i + 16 ≤ length bytes → j + 16 ≤ length bytes → Ascii (two_at bytes i j) 0 16 →
    Ascii bytes i (i + 16) × Ascii bytes j (j + 16)
ascii_two bytes i j room_i room_j low =
    let each = ascii_each (chunk i 16 bytes) (chunk j 16 bytes) 16 (length-chunk i 16 bytes room_i) (length-chunk j 16 bytes room_j) low in
    (ascii_chunk bytes i 16 each.0, ascii_chunk bytes j 16 each.1)

pub ascii_four : (bytes : List ℕ) (from end : ℕ) → end + 64 ≤ length bytes → Ascii bytes from end →
    mask_l (map (nat_le 128) (zip2 bit_or (two_at bytes end (end + 16)) (two_at bytes (end + 32) (end + 48)))) ≡ 0 →
    Ascii bytes from (end + 64)
ascii_four bytes from end room before none =
    let front = two_at bytes end (end + 16) in
    let back = two_at bytes (end + 32) (end + 48) in
    let long_f = length-two_at bytes end (end + 16) (omega (arith, room)) (omega (arith, room)) in
    let long_b = length-two_at bytes (end + 32) (end + 48) (omega (arith, room)) (omega (arith, room)) in
    let all = zip2 bit_or front back in
    let low = subst (Ascii all 0) (length-either front back 16 long_f long_b) (ascii_lanes all none) in
    let each = ascii_each front back 16 long_f long_b low in
    let one = ascii_two bytes end (end + 16) (omega (arith, room)) (omega (arith, room)) each.0 in
    let two = ascii_two bytes (end + 32) (end + 48) (omega (arith, room)) (omega (arith, room)) each.1 in
    let first = ascii_joined bytes from end end (end + 16) (end + 16) (omega arith) (omega arith) before one.0 in
    let second = ascii_joined bytes from (end + 16) (end + 16) (end + 16 + 16) (end + 32) (omega arith) (omega arith) first one.1 in
    let third = ascii_joined bytes from (end + 32) (end + 32) (end + 32 + 16) (end + 48) (omega arith) (omega arith) second two.0 in
    ascii_joined bytes from (end + 48) (end + 48) (end + 48 + 16) (end + 64) (omega arith) (omega arith) third two.1

-- ---- a text, piece by piece

pub text_on : (bytes : List ℕ) (from end : ℕ) → from ≤ end → IsUtf8 (take from bytes) → IsUtf8 (take (end - from) (drop from bytes)) →
    IsUtf8 (take end bytes)
text_on bytes from end on front piece =
    let far : from + (end - from) ≡ end = omega (arith, on) in
    subst IsUtf8 (sym (take-add from (end - from) bytes) ∙ ap (λ n. take n bytes) far)
    (IsUtf8-append (take from bytes) (take (end - from) (drop from bytes)) front piece)

pub ascii_text : (bytes : List ℕ) (from end : ℕ) → from ≤ end → Ascii bytes from end → IsUtf8 (take from bytes) → IsUtf8 (take end bytes)
ascii_text bytes from end on ascii front = text_on bytes from end on front (IsUtf8-from_ascii (take (end - from) (drop from bytes)) low)
  where
    low : (i : ℕ) → get_or (take (end - from) (drop from bytes)) i 0 < 128
    low i = go (cases_lt i (end - from))
      where
        go : (i < end - from) ⊎ (end - from ≤ i) → get_or (take (end - from) (drop from bytes)) i 0 < 128
        go (inl l) =
            let here = ascii (from + i) (omega arith) (omega (arith, l)) in
            omega (arith, get_or-take (end - from) (drop from bytes) i 0 l, get_or-drop from bytes i 0, here)
        go (inr r) =
            let past : length (take (end - from) (drop from bytes)) ≤ i = omega (arith, r, length-take (end - from) (drop from bytes)) in
            omega (arith, get_or_past (take (end - from) (drop from bytes)) i 0 past)

-- no text where a piece isn't one
pub no_text : (bytes : List ℕ) (from end : ℕ) → from ≤ end → end ≤ length bytes → IsUtf8 (take from bytes) →
    (end < length bytes → get_or bytes end 0 < 128) → ¬ IsUtf8 (take (end - from) (drop from bytes)) → ¬ IsUtf8 bytes
no_text bytes from end on within front ascii not_text text =
    not_text (IsUtf8-between bytes from end text on starts (ends (cases_lt end (length bytes))))
  where
    starts : IsCharBoundary bytes from
    starts = IsCharBoundary-from_take bytes from text (omega (arith, on, within)) front

    ends : (end < length bytes) ⊎ (length bytes ≤ end) → IsCharBoundary bytes end
    ends (inl l) = IsCharBoundary-before_ascii bytes end l (ascii l)
    ends (inr r) =
        let all : length bytes ≡ end = omega (arith, r, within) in
        subst (IsCharBoundary bytes) all (IsCharBoundary-end bytes)

-- what a test of a piece tells
pub ok_of : {A E U : Type 0} (r : Result A E) (P : A → Type 0) (Q : E → Type 0) → MatchResult r (λ a. P a × U) Q → is_err r ≡ false → U
ok_of (Ok a) P Q told is = told.1
ok_of (Err e) P Q told is = absurd (true≢false is)

pub err_of : {A E U : Type 0} (r : Result A E) (P : A → Type 0) (Q : E → Type 0) → MatchResult r P (λ e. ¬ U × Q e) → is_err r ≡ true → ¬ U
err_of (Ok a) P Q told is = absurd (true≢false (sym is))
err_of (Err e) P Q told is = told.0
