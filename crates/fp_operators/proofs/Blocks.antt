-- Bytes taken into the state a block at a time.
use Rattle.std.proofs.Common.{◌≡◌, ◌≤◌, ◌<◌, ◌-◌, ℕ, List, [], ◌∷◌, ◌++◌, length, take, drop, slice_index, refl, ap, ◌∙◌, arith}
use Rattle.std.proofs.lemmas.List.{take_all}
use Rattle.fp_operators.specs.Murmur.{word, mixed, absorbed}

-- what stands behind the first n bytes
abbrev pub behind : ℕ → List ℕ → List ℕ
behind n xs = take (length xs - n) (drop n xs)

first_one : (xs : List ℕ) → 1 ≤ length xs → slice_index xs 0 ∷ behind 1 xs ≡ xs
first_one [] h = absurd (omega arith)
first_one (a ∷ xs) h = ap (λ ys. a ∷ ys) (take_all (length (a ∷ xs) - 1) xs (omega arith))

first_two : (xs : List ℕ) → 2 ≤ length xs → slice_index xs 0 ∷ slice_index xs 1 ∷ behind 2 xs ≡ xs
first_two [] h = absurd (omega arith)
first_two (a ∷ []) h = absurd (omega arith)
first_two (a ∷ b ∷ xs) h = ap (λ ys. a ∷ b ∷ ys) (take_all (length (a ∷ b ∷ xs) - 2) xs (omega arith))

first_three : (xs : List ℕ) → 3 ≤ length xs → slice_index xs 0 ∷ slice_index xs 1 ∷ slice_index xs 2 ∷ behind 3 xs ≡ xs
first_three [] h = absurd (omega arith)
first_three (a ∷ []) h = absurd (omega arith)
first_three (a ∷ b ∷ []) h = absurd (omega arith)
first_three (a ∷ b ∷ c ∷ xs) h = ap (λ ys. a ∷ b ∷ c ∷ ys) (take_all (length (a ∷ b ∷ c ∷ xs) - 3) xs (omega arith))

first_four : (xs : List ℕ) → 4 ≤ length xs → slice_index xs 0 ∷ slice_index xs 1 ∷ slice_index xs 2 ∷ slice_index xs 3 ∷ behind 4 xs ≡ xs
first_four [] h = absurd (omega arith)
first_four (a ∷ []) h = absurd (omega arith)
first_four (a ∷ b ∷ []) h = absurd (omega arith)
first_four (a ∷ b ∷ c ∷ []) h = absurd (omega arith)
first_four (a ∷ b ∷ c ∷ d ∷ xs) h = ap (λ ys. a ∷ b ∷ c ∷ d ∷ ys) (take_all (length (a ∷ b ∷ c ∷ d ∷ xs) - 4) xs (omega arith))

-- a block in front of other bytes
pub block-then : (h m : ℕ) (xs ys : List ℕ) → 4 ≤ length xs →
    m ≡ mixed h (word (slice_index xs 0) (slice_index xs 1) (slice_index xs 2) (slice_index xs 3)) →
    absorbed m (behind 4 xs ++ ys) ≡ absorbed h (xs ++ ys)
block-then h m xs ys long e = ap (λ s. absorbed s (behind 4 xs ++ ys)) e ∙ ap (λ zs. absorbed h (zs ++ ys)) (first_four xs long)

pub block : (h m : ℕ) (xs : List ℕ) → 4 ≤ length xs →
    m ≡ mixed h (word (slice_index xs 0) (slice_index xs 1) (slice_index xs 2) (slice_index xs 3)) →
    absorbed m (behind 4 xs) ≡ absorbed h xs
block h m xs long e = ap (λ s. absorbed s (behind 4 xs)) e ∙ ap (absorbed h) (first_four xs long)

-- a block that begins in front of them
pub block-after_one : (h m a : ℕ) (xs : List ℕ) → 3 ≤ length xs →
    m ≡ mixed h (word a (slice_index xs 0) (slice_index xs 1) (slice_index xs 2)) →
    absorbed m (behind 3 xs) ≡ absorbed h (a ∷ xs)
block-after_one h m a xs long e = ap (λ s. absorbed s (behind 3 xs)) e ∙ ap (λ zs. absorbed h (a ∷ zs)) (first_three xs long)

pub block-after_two : (h m a b : ℕ) (xs : List ℕ) → 2 ≤ length xs →
    m ≡ mixed h (word a b (slice_index xs 0) (slice_index xs 1)) → absorbed m (behind 2 xs) ≡ absorbed h (a ∷ b ∷ xs)
block-after_two h m a b xs long e = ap (λ s. absorbed s (behind 2 xs)) e ∙ ap (λ zs. absorbed h (a ∷ b ∷ zs)) (first_two xs long)

pub block-after_three : (h m a b c : ℕ) (xs : List ℕ) → 1 ≤ length xs → m ≡ mixed h (word a b c (slice_index xs 0)) →
    absorbed m (behind 1 xs) ≡ absorbed h (a ∷ b ∷ c ∷ xs)
block-after_three h m a b c xs long e = ap (λ s. absorbed s (behind 1 xs)) e ∙ ap (λ zs. absorbed h (a ∷ b ∷ c ∷ zs)) (first_one xs long)

-- a few bytes in front of others
pub two-then : (xs ys : List ℕ) → 2 ≤ length xs → length xs < 3 → slice_index xs 0 ∷ slice_index xs 1 ∷ ys ≡ xs ++ ys
two-then [] ys h k = absurd (omega arith)
two-then (a ∷ []) ys h k = absurd (omega arith)
two-then (a ∷ b ∷ []) ys h k = refl
two-then (a ∷ b ∷ c ∷ xs) ys h k = absurd (omega arith)

pub three-then : (xs ys : List ℕ) → 3 ≤ length xs → length xs < 4 → slice_index xs 0 ∷ slice_index xs 1 ∷ slice_index xs 2 ∷ ys ≡ xs ++ ys
three-then [] ys h k = absurd (omega arith)
three-then (a ∷ []) ys h k = absurd (omega arith)
three-then (a ∷ b ∷ []) ys h k = absurd (omega arith)
three-then (a ∷ b ∷ c ∷ []) ys h k = refl
three-then (a ∷ b ∷ c ∷ d ∷ xs) ys h k = absurd (omega arith)
