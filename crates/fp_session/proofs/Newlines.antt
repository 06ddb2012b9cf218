-- The first byte of a kind, found by a search.
use Rattle.std.proofs.Common.{◌≡◌, ℕ, ◌==◌, List, length, Bool, true, false, Option, Some, None, refl, arith}
use Rattle.std.specs.Prelude.{position}
use Rattle.std.proofs.lemmas.List.Sums.{position_or_len_is}
use Rattle.memchr.specs.Find.{IsFirstByte, is_byte}

fails : (b : Bool) → ¬ (b ≡ true) → b ≡ false
fails true h = absurd (h refl)
fails false h = refl

pub first_byte : (a : ℕ) (xs : List ℕ) (r : Option ℕ) → IsFirstByte (is_byte a) xs r → r ≡ position (λ b. b == a) xs
first_byte a xs None h =
    let at = position_or_len_is (λ b. b == a) xs (length xs) 0 (omega arith) (λ k b. fails _ (h k (omega arith) b))
    (λ b. absurd (omega (arith, b))) in rw (at) (grind arith)
first_byte a xs (Some k) h =
    let at = position_or_len_is (λ b. b == a) xs k 0 (omega (arith, h.0.high)) (λ j b. fails _ (h.0.before j (omega arith) b))
    (λ b. h.1) in let high = h.0.high in rw (at) (grind arith)
