-- What `Resolves` says holds of the one outcome that `outcome_of` computes, and of no other.
use Rattle.std.proofs.Common.{◌≡◌, ◌↔◌, ℕ, List, Bool, true, false, Option, Some, None, Result, Err, cond, codes, refl, ap, ◌∙◌}
use Rattle.std.specs.Prelude.{IfSome}
use Rattle.serde_json.specs.Data.{Data}
use Rattle.serde_json.specs.Find.{get}
use Rattle.fp_operators.specs.Data as value
use Rattle.fp_machine.specs.Rule.{Rule}
use Rattle.fp_machine.specs.Means.{Means}
use Rattle.fp_machine.specs.Meaning.{meaning}
use Rattle.fp_definition.specs.Outcome.{by_rule, outcome_of}
use Rattle.fp_definition.specs.Resolving.{Said, Resolves, ByRule, ByState, by_result}
use Rattle.fp_definition.specs.Targeting.{rule_in}
use Rattle.fp_definition.specs.declared.resolving.EvalFault.{EvalFault}
use Rattle.fp_definition.specs.declared.resolving.EvalFault.TheVariants.{Disabled}

-- what a rule means is what is computed
abbrev pub IsComputed : Rule → Type 0
IsComputed r = (env x : value.Data) → Means r env x ↔ (x ≡ meaning env r)

of_rule : (d : Data) (r : Option Rule) (env : value.Data) (o : Result Said EvalFault) → IfSome r IsComputed →
    ByRule d r env o ↔ (o ≡ by_rule d r env)
of_rule d None env o computed = (λ h. h, λ h. h)
of_rule d (Some r) env o computed =
    (λ h. h.2 ∙ ap (λ x. by_result d x) ((computed env h.0).0 h.1), λ e. (meaning env r, (computed env (meaning env r)).1 refl, e))

of_state : (b : Bool) (E : Type 0) (o x : Result Said EvalFault) → E ↔ (o ≡ x) → ByState b E o ↔ (o ≡ cond b (Err Disabled) x)
of_state true E o x f = (λ h. h, λ h. h)
of_state false E o x f = f

pub outcome_is : (d : Data) (key : List ℕ) (context : Data) (now : ℕ) (o : Result Said EvalFault)
    → IfSome (rule_in (get (codes "targeting") d)) IsComputed → Resolves d key context now o ↔ (o ≡ outcome_of d key context now)
unfolding outcome_of
outcome_is d key context now o computed = of_state _ _ o _ (of_rule d _ _ o computed)
