-- Code that asks for no memory, where the rule needs none.
use Rattle.std.proofs.Common.{◌≡◌, ◌<◌, ◌||◌, ℕ, zero, suc, List, [], ◌∷◌, length, get_or, Bool, true, false}
use Rattle.std.proofs.Common.{Result, Ok, Err, IfErr, refl, ap, ◌∙◌, arith}
use Rattle.fp_machine.specs.Frugal.{asks, any_asks, IsFrugal}
use Rattle.fp_machine.specs.declared.code.Code.{Code}
use Rattle.fp_machine.specs.declared.code.Step.{Step}

pub neither : (a b : Bool) → (a || b) ≡ false → (a ≡ false) × (b ≡ false)
neither true b h = absurd (cc)
neither false b h = (refl, h)

pub true-false : {b : Bool} → b ≡ true → b ≡ false → ⊥
true-false h g = cc

pub any-err : {A B : Type 0} {P : Type 0} (r : Result A B) → P → IfErr r (λ e. P)
any-err (Ok x) p = tt
any-err (Err e) p = p

pub asks-none : (cs : List Step) (n : ℕ) (c : Step) → any_asks cs ≡ false → n < length cs → c ≡ get_or cs n c → asks c ≡ false
asks-none [] n c h within is = absurd (omega (arith, within))
asks-none (d ∷ cs) zero c h within is = ap asks is ∙ (neither (asks d) (any_asks cs) h).0
asks-none (d ∷ cs) (suc n) c h within is = asks-none cs n c (neither (asks d) (any_asks cs) h).1 (omega (arith, within)) is

-- where an instruction asks, the rule needs memory
pub asked : (needs : Bool) {a : Code} → (needs ≡ false → IsFrugal a) → (n : ℕ) (c : Step) →
    n < length a.steps.items → c ≡ get_or a.steps.items n c → asks c ≡ true → needs ≡ true
asked true f n c within is asking = refl
asked false {a = a} f n c within is asking = absurd (true-false asking (asks-none a.steps.items n c (f refl).steps within is))
