-- Definitions whose outcome doesn't depend on the moment.
use Rattle.std.proofs.Common.{◌≡◌, ℕ, List, Option, Some, None, codes, refl, ap, if◌then◌else◌}
use Rattle.std.specs.Prelude.{IfSome, Err}
use Rattle.serde_json.specs.Data.{Data}
use Rattle.serde_json.specs.Find.{get}
use Rattle.fp_targeting.specs.Moment.{IsTimeless as RuleIsTimeless}
use Rattle.fp_machine.specs.Rule.{Rule}
use Rattle.fp_targeting.specs.RuleData.{rule_data}
use Rattle.fp_definition.specs.Outcome.{IsTimeless, by_rule, outcome_of}
use Rattle.fp_definition.specs.Resolving.{by_result, is_disabled}
use Rattle.fp_definition.specs.Targeting.{rule_in}
use Rattle.fp_definition.specs.declared.resolving.EvalFault.TheVariants.{Disabled}

by_rule-timeless : (d : Data) (r : Option Rule) → IfSome r RuleIsTimeless → (key : List ℕ) (context : Data) (now later : ℕ)
    → by_rule d r (rule_data context key now) ≡ by_rule d r (rule_data context key later)
by_rule-timeless d None h key context now later = refl
by_rule-timeless d (Some r) h key context now later = ap (by_result d) (h context key now later)

pub outcome-timeless : (d : Data) → IfSome (rule_in (get (codes "targeting") d)) RuleIsTimeless → IsTimeless d
unfolding outcome_of
outcome-timeless d h key context now later =
    ap (λ o. if is_disabled (get (codes "state") d) then Err Disabled else o)
    (by_rule-timeless d (rule_in (get (codes "targeting") d)) h key context now later)
