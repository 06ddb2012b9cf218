-- Texts of whole numbers.
use Rattle.std.proofs.Common.{◌≡◌, ℕ, suc, ℤ, pos, negsuc, ◌+◌, ◌*◌, ◌^◌, ◌<◌, ◌≤◌, [], ◌∷◌, ◌++◌, true, Some, refl, sym, subst, ◌∙◌, arith}
use Rattle.std.specs.Fmt.{decimal}
use Rattle.std.specs.Int.{w64}
use Rattle.std.specs.Prelude.{FitsSigned}
use Rattle.std.proofs.lemmas.Fmt.{decimal_step}
use Rattle.std.proofs.lemmas.Int.{ints}
use Rattle.std.proofs.lemmas.Nat.{div-mul-add, mod-mul-add}
use Rattle.serde_json.specs.Find.{as_i64}
use Rattle.serde_json.specs.Number.{num_of, is_valid}
use Rattle.serde_json.specs.declared.number.N.{N}
use Rattle.serde_json.specs.declared.number.N.TheVariants.{PosInt, NegInt, Float}
use Rattle.serde_json.proofs.Numbers.{number_of-decimal, number_of-negative}
use Rattle.fp_base.specs.Ordered.{IsWritten}

-- a digit more behind a number that isn't 0
pub decimal-more : (n d : ℕ) → 0 < n → d < 10 → n * 10 + d < 2 ^ 64 → decimal (n * 10 + d) ≡ decimal n ++ (48 + d) ∷ []
decimal-more n d some small fits =
    decimal_step (n * 10 + d) (omega arith) fits ∙ rw (div-mul-add n 10 d small, mod-mul-add n 10 d small) refl

-- a number that fits an i64 where it is whole reads as it is written
pub written : (x : N) (z : ℤ) → is_valid x ≡ true → as_i64 (num_of x) ≡ Some z → FitsSigned w64 z → IsWritten (num_of x)
written (PosInt n) z valid is fits = λ h. number_of-decimal n (grind arith)
written (NegInt (pos n)) z valid is fits = absurd (grind arith)
written (NegInt (negsuc n)) z valid is fits =
    let same : negsuc n ≡ z = some_same (negsuc n) z is in
    let low : FitsSigned w64 (negsuc n) = subst (FitsSigned w64) (sym same) fits in
    let small : suc n ≤ 2 ^ 63 = omega (arith, ints, low.sfits) in
    λ h. number_of-negative n (omega arith)
  where
    some_same : (y z : ℤ) → Some y ≡ Some z → y ≡ z
    some_same y z h = cc
written (Float x) z valid is fits = absurd (cc)

pub ruleset decimals = (number_of-decimal)
