-- Code that asks for no memory, where the rule needs none.
use Rattle.std.proofs.Common.{◌≡◌, ◌≤◌, ◌+◌, ℕ, List, [], ◌∷◌, ◌++◌, Bool, true, false}
use Rattle.std.proofs.Common.{not, refl, ap, ◌∙◌, arith}
use Rattle.fp_targeting.specs.Emits.{Pushed, Raised, IsOperand}
use Rattle.fp_machine.specs.Frugal.{asks, any_asks, is_sem_ver, IsFrugal}
use Rattle.fp_machine.specs.Memory.{needs_memory, any_needs, itself_needs}
use Rattle.fp_targeting.specs.Nesting.{nesting}
use Rattle.fp_machine.specs.Rule.{Rule, Rules, apply, no_rules, rule}
use Rattle.fp_targeting.specs.Strict.{is_strict}
use Rattle.fp_machine.specs.declared.code.Code.{Code}
use Rattle.fp_machine.specs.declared.code.Operand.{Operand}
use Rattle.fp_machine.specs.declared.code.Step.{Step}
use Rattle.fp_machine.specs.declared.code.Step.TheVariants.{Keep}
use Rattle.fp_machine.specs.declared.operator.Operator.{Operator}
use Rattle.fp_machine.specs.declared.operator.Operator.TheVariants.{If, And, Or, Var, Cat, SemVer, Fractional, Unary, Binary, Chain}
use Rattle.fp_machine.specs.Numbers.{DEEPEST_RULE}
use Rattle.fp_machine.proofs.Frugal.{neither}

pub not-false : (b : Bool) → not b ≡ false → b ≡ true
not-false true h = refl
not-false false h = absurd (cc)

-- ---- instructions

asks-last : (cs : List Step) (c : Step) → any_asks cs ≡ false → asks c ≡ false → any_asks (cs ++ c ∷ []) ≡ false
asks-last [] c h g = rw g refl
asks-last (d ∷ cs) c h g = let n = neither (asks d) (any_asks cs) h in rw (n.0, asks-last cs c n.1 g) refl

pub pushed-frugal : {c : Step} {a b : Code} → Pushed c a b → asks c ≡ false → IsFrugal a → IsFrugal b
pushed-frugal {c = c} {a = a} p none f = record {
  room = omega (arith, p.room, f.room);
  steps = ap any_asks p.steps ∙ asks-last a.steps.items c f.steps none;
}

-- a result is kept where there are places for so many
pub raised-frugal : {m : ℕ} {a b : Code} → Raised Keep m a b → m ≤ DEEPEST_RULE → IsFrugal a → IsFrugal b
raised-frugal {a = a} k few f = record {
  room = omega (arith, k.room, few, f.room);
  steps = ap any_asks k.steps ∙ asks-last a.steps.items Keep f.steps refl;
}

pub as-frugal : {a b : Code} → b.steps ≡ a.steps → b.room ≡ a.room → IsFrugal a → IsFrugal b
as-frugal steps room f = record { room = omega (arith, room, f.room); steps = ap (λ v. any_asks v.items) steps ∙ f.steps }

pub operand-frugal : {o : Operand} {r : Rule} {a b : Code} → IsOperand o r a b → IsFrugal a → IsFrugal b
operand-frugal x f = as-frugal x.steps x.room f

-- ---- operators and their arguments

module _ (o : Operator) (rs : Rules) (none : needs_memory (apply o rs) ≡ false) where
  pub itself-none : itself_needs o ≡ false
  itself-none = (neither (itself_needs o) (any_needs rs) none).0

  pub all-none : any_needs rs ≡ false
  all-none = (neither (itself_needs o) (any_needs rs) none).1

module _ (r : Rule) (rs : Rules) (none : any_needs (rule r rs) ≡ false) where
  pub first-none : needs_memory r ≡ false
  first-none = (neither (needs_memory r) (any_needs rs) none).0

  pub others-none : any_needs rs ≡ false
  others-none = (neither (needs_memory r) (any_needs rs) none).1

pub strict-asks : (o : Operator) → is_strict o ≡ true → itself_needs o ≡ false → is_sem_ver o ≡ false
strict-asks If h none = absurd (cc)
strict-asks And h none = absurd (cc)
strict-asks Or h none = absurd (cc)
strict-asks Var h none = absurd (cc)
strict-asks Cat h none = absurd (cc)
strict-asks SemVer h none = absurd (cc)
strict-asks Fractional h none = absurd (cc)
strict-asks (Unary o) h none = refl
strict-asks (Binary o) h none = refl
strict-asks (Chain o) h none = refl

-- ---- places for what is kept

pub first-deep : (h : ℕ) (o : Operator) (r : Rule) (rs : Rules) → h + nesting (apply o (rule r rs)) ≤ DEEPEST_RULE →
    h + nesting r ≤ DEEPEST_RULE
first-deep h o r no_rules deep = omega (arith, deep)
first-deep h o r (rule q rs) deep = omega (arith, deep)

pub others-deep : (h : ℕ) (o : Operator) (r : Rule) (rs : Rules) → h + nesting (apply o (rule r rs)) ≤ DEEPEST_RULE →
    h + nesting (apply o rs) ≤ DEEPEST_RULE
others-deep h o r no_rules deep = omega (arith, deep)
others-deep h o r (rule q no_rules) deep = omega (arith, deep)
others-deep h o r (rule q (rule u rs)) deep = omega (arith, deep)
