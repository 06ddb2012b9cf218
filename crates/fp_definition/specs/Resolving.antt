-- What a definition resolves to.
use Rattle.std.specs.Prelude.{◌≡◌, ℕ, List, codes, Bool, true, false, bytes_eq, Option, Some, None}
use Rattle.std.specs.Prelude.{unwrap_or, Result, Ok, Err}
use Rattle.serde_json.specs.Data.{Data, null, string}
use Rattle.serde_json.specs.Find.{get}
use Rattle.serde_json.specs.Written.{compact_text}
use Rattle.fp_base.specs.Json.{json_of}
use Rattle.fp_operators.specs.Data as value
use Rattle.fp_machine.specs.Rule.{Rule}
use Rattle.fp_machine.specs.Means.{Means}
use Rattle.fp_targeting.specs.RuleData.{rule_data}
use Rattle.fp_definition.specs.Targeting.{rule_in}
use Rattle.fp_definition.specs.declared.resolving.Reason.{Reason}
use Rattle.fp_definition.specs.declared.resolving.Reason.TheVariants.{Static, Default}
use Rattle.fp_definition.specs.declared.resolving.Reason.TheVariants.{TargetingMatch}
use Rattle.fp_definition.specs.declared.resolving.Resolved.{Resolved}
use Rattle.fp_definition.specs.declared.resolving.EvalFault.{EvalFault}
use Rattle.fp_definition.specs.declared.resolving.EvalFault.TheVariants.{Disabled, NoVariant}
use Rattle.fp_definition.specs.declared.resolving.EvalFault.TheVariants.{Memory}

-- the data that a canonical text spells
abbrev pub data_of : List ℕ → Data
data_of text = unwrap_or (json_of text) null

-- a variant's name, its value, and why it was taken
abbrev pub Said : Type 0
Said = List ℕ × Data × Reason

abbrev pub is_disabled : Option Data → Bool
is_disabled (Some (string s)) = bytes_eq s (codes "DISABLED")
is_disabled d = false

abbrev pub said_or_none : List ℕ → Reason → Option Data → Result Said EvalFault
said_or_none name reason None = Err NoVariant
said_or_none name reason (Some d) = Ok (name, d, reason)

-- the variant of that name among these
abbrev pub outcome_of_variant : List ℕ → Reason → Option Data → Result Said EvalFault
outcome_of_variant name reason None = Err NoVariant
outcome_of_variant name reason (Some variants) = said_or_none name reason (get name variants)

abbrev pub default_named : Reason → Option Data → Option Data → Result Said EvalFault
default_named reason (Some (string name)) variants = outcome_of_variant name reason variants
default_named reason other variants = Err NoVariant

-- the default variant
abbrev pub by_default : Reason → Data → Result Said EvalFault
by_default reason d =
    default_named reason (get (codes "defaultVariant") d) (get (codes "variants") d)

-- what a rule's result names: null the default, a text the variant of that name, and so true and
-- false
abbrev pub by_result : Data → value.Data → Result Said EvalFault
by_result d value.null = by_default Default d
by_result d (value.text name) = outcome_of_variant name TargetingMatch (get (codes "variants") d)
by_result d (value.boolean true) =
    outcome_of_variant (codes "true") TargetingMatch (get (codes "variants") d)
by_result d (value.boolean false) =
    outcome_of_variant (codes "false") TargetingMatch (get (codes "variants") d)
by_result d (value.whole z) = Err NoVariant
by_result d (value.list xs) = Err NoVariant
by_result d (value.object ms) = Err NoVariant

-- without a rule the default variant; with one what its result names
abbrev pub ByRule : Data → Option Rule → value.Data → Result Said EvalFault → Type 0
ByRule d None env outcome = outcome ≡ by_default Static d
ByRule d (Some r) env outcome = (x : value.Data) × Means r env x × (outcome ≡ by_result d x)

abbrev pub ByState : Bool → Type 0 → Result Said EvalFault → Type 0
ByState true Enabled outcome = outcome ≡ Err Disabled
ByState false Enabled outcome = Enabled

-- a definition, for a key, a context and a moment in seconds since 1970, has this outcome
abbrev pub Resolves : Data → List ℕ → Data → ℕ → Result Said EvalFault → Type 0
Resolves d key context now outcome =
    ByState (is_disabled (get (codes "state") d))
    (ByRule d (rule_in (get (codes "targeting") d)) (rule_data context key now) outcome) outcome

-- ---- what the code answers

-- what is said, the value as its canonical text
abbrev pub Spelling : Type 0
Spelling = List ℕ × List ℕ × Reason

abbrev pub spelling : Said → Spelling
spelling said = (said.0, compact_text said.1, said.2)

abbrev pub outcome_spelled : Result Said EvalFault → Result Spelling EvalFault
outcome_spelled (Ok said) = Ok (spelling said)
outcome_spelled (Err e) = Err e

-- an outcome of this kind, spelled
abbrev pub Spells : (Result Said EvalFault → Type 0) → Result Spelling EvalFault → Type 0
Spells Has (Ok spelled) = (said : Said) × Has (Ok said) × (spelled ≡ spelling said)
Spells Has (Err e) = Has (Err e)

abbrev pub spelled_by : Resolved → Spelling
spelled_by r = (r.variant.now, r.value.now, r.reason)

-- what a fault tells; want of memory tells nothing
abbrev pub Tells : EvalFault → (EvalFault → Type 0) → Type 0
Tells Disabled Has = Has Disabled
Tells NoVariant Has = Has NoVariant
Tells Memory Has = Unit {0}

-- of a call that takes no memory each fault tells of itself
abbrev pub TellsItself : EvalFault → (EvalFault → Type 0) → Type 0
TellsItself e Has = Has e
