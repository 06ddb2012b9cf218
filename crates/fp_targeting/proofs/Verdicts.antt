-- What compiling answers of a value that nests within the limit.
use Rattle.std.proofs.Common.{◌≡◌, ◌≤◌, ◌-◌, ℕ, List, Bool, true, false, ◌&&◌, Option, Some, None, is_some, Ok, Err}
use Rattle.std.proofs.Common.{refl, sym, ap, ◌∙◌, if◌then◌else◌}
use Rattle.std.specs.Prelude.{nat_le}
use Rattle.std.proofs.lemmas.Bool.{le-leb}
use Rattle.serde_json.specs.Data.{Data, depth}
use Rattle.fp_base.specs.Count.{count, spend}
use Rattle.fp_base.specs.Whole.{is_whole}
use Rattle.fp_targeting.specs.Answer.{Tells, unknown_or_bad}
use Rattle.fp_targeting.specs.Compile.{Fault, bad, too_deep, first_unknown, rule_of, rule_or_bad, verdict_known, verdict}
use Rattle.fp_targeting.specs.Compiles.{NoRule}
use Rattle.fp_machine.specs.Rule.{Rule}
use Rattle.fp_targeting.specs.declared.rule.RuleFault.{RuleFault}
use Rattle.fp_targeting.specs.declared.rule.RuleFault.TheVariants.{TooDeep, UnsupportedOperator, BadRule, Memory}
use Rattle.fp_machine.specs.Numbers.{DEEPEST_RULE}
use Rattle.fp_targeting.specs.Numbers.{MOST_RULE_VALUES}

verdict-flat : (d : Data) → depth d ≤ DEEPEST_RULE → verdict d ≡ verdict_known d (first_unknown d)
verdict-flat d flat = ap (λ b. if b then verdict_known d (first_unknown d) else Err too_deep) (le-leb (depth d) DEEPEST_RULE flat)

known-rule : (d : Data) (r : Rule) (a b : Bool) → a ≡ true → b ≡ true → rule_of d ≡ Some r →
    (if a && b then rule_or_bad (rule_of d) else Err bad) ≡ Ok r
known-rule d r a b h g e = rw (h, g, e) refl

covers : (b : Bool) (left : ℕ) → is_some (if b then Some left else None) ≡ true → b ≡ true
covers true left h = refl
covers false left h = absurd (cc)

pub verdict-rule : (d : Data) (r : Rule) → depth d ≤ DEEPEST_RULE →
    is_some (spend MOST_RULE_VALUES (count d)) ≡ true → is_whole d ≡ true → first_unknown d ≡ None
    → rule_of d ≡ Some r → verdict d ≡ Ok r
verdict-rule d r flat few whole known is =
    let enough = covers (nat_le (count d) MOST_RULE_VALUES) (MOST_RULE_VALUES - count d) few in
    verdict-flat d flat ∙ ap (verdict_known d) known ∙ known-rule d r (nat_le (count d) MOST_RULE_VALUES) (is_whole d) enough whole is

none_if : (b : Bool) (o : Option Rule) → o ≡ None → (if b then rule_or_bad o else Err bad) ≡ Err bad
none_if true o e = ap rule_or_bad e
none_if false o e = refl

known-none : (d : Data) (u : Option (List ℕ)) → first_unknown d ≡ u → NoRule d → verdict_known d u ≡ Err (unknown_or_bad u)
known-none d None e none = none_if (nat_le (count d) MOST_RULE_VALUES && is_whole d) (rule_of d) (none e)
known-none d (Some name) e none = refl

verdict-none : (d : Data) → depth d ≤ DEEPEST_RULE → NoRule d → verdict d ≡ Err (unknown_or_bad (first_unknown d))
verdict-none d flat none = verdict-flat d flat ∙ known-none d (first_unknown d) refl none

tells : (e : RuleFault) (P Q : Fault → Type 0) → ((f : Fault) → P f → Q f) → Tells e P → Tells e Q
tells TooDeep P Q f h = f too_deep h
tells (UnsupportedOperator name) P Q f h = f _ h
tells BadRule P Q f h = f bad h
tells Memory P Q f h = h

-- a value that is no rule
pub refused-none : (d : Data) (e : RuleFault) → depth d ≤ DEEPEST_RULE → NoRule d →
    Tells e (λ f. f ≡ unknown_or_bad (first_unknown d)) → Tells e (λ f. verdict d ≡ Err f)
refused-none d e flat none h =
    tells e (λ f. f ≡ unknown_or_bad (first_unknown d)) (λ f. verdict d ≡ Err f)
    (λ f same. verdict-none d flat none ∙ ap Err (sym same)) h
