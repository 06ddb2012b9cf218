-- The one outcome of a definition, computed: a plain program beside the relation `Resolves`.
use Rattle.std.specs.Prelude.{◌≡◌, ℕ, List, codes, if◌then◌else◌, Option, Some, None, Result, Err}
use Rattle.serde_json.specs.Data.{Data}
use Rattle.serde_json.specs.Find.{get}
use Rattle.fp_operators.specs.Data as value
use Rattle.fp_machine.specs.Rule.{Rule}
use Rattle.fp_machine.specs.Meaning.{meaning}
use Rattle.fp_targeting.specs.RuleData.{rule_data}
use Rattle.fp_definition.specs.Targeting.{rule_in}
use Rattle.fp_definition.specs.Resolving.{Said, by_default, by_result, is_disabled}
use Rattle.fp_definition.specs.declared.resolving.Reason.TheVariants.{Static}
use Rattle.fp_definition.specs.declared.resolving.EvalFault.{EvalFault}
use Rattle.fp_definition.specs.declared.resolving.EvalFault.TheVariants.{Disabled}

abbrev pub by_rule : Data → Option Rule → value.Data → Result Said EvalFault
by_rule d None env = by_default Static d
by_rule d (Some r) env = by_result d (meaning env r)

unfoldable pub outcome_of : Data → List ℕ → Data → ℕ → Result Said EvalFault
outcome_of d key context now = if is_disabled (get (codes "state") d) then Err Disabled
    else by_rule d (rule_in (get (codes "targeting") d)) (rule_data context key now)

-- at any moment it has the outcome that it has at any other
abbrev pub IsTimeless : Data → Type 0
IsTimeless d = (key : List ℕ) (context : Data) (now later : ℕ)
    → outcome_of d key context now ≡ outcome_of d key context later
