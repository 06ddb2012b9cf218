-- Rules that can't tell one moment from another.
use Rattle.std.specs.Prelude.{◌≡◌, ℕ, List}
use Rattle.serde_json.specs.Data as json
use Rattle.fp_machine.specs.Meaning.{meaning}
use Rattle.fp_machine.specs.Rule.{Rule}
use Rattle.fp_targeting.specs.RuleData.{rule_data}

-- for each context and flag, the rule gives at any moment what it gives at any other
abbrev pub IsTimeless : Rule → Type 0
IsTimeless r = (context : json.Data) (key : List ℕ) (now later : ℕ)
    → meaning (rule_data context key now) r ≡ meaning (rule_data context key later) r
