-- Which rules of definitions ask for memory when they are evaluated.
use Rattle.std.specs.Prelude.{Bool, false, codes, IsSome, Option, Some, None}
use Rattle.serde_json.specs.Data.{Data}
use Rattle.serde_json.specs.Find.{get}
use Rattle.fp_definition.specs.Targeting.{rule_in}
use Rattle.fp_machine.specs.Memory.{needs_memory}
use Rattle.fp_machine.specs.Rule.{Rule}

-- there is a rule, and it makes a list or a text, or reads versions
abbrev pub rule_needs_memory : Option Rule → Bool
rule_needs_memory None = false
rule_needs_memory (Some r) = needs_memory r

-- a definition has a rule
abbrev pub HasRule : Data → Type 0
HasRule d = IsSome (rule_in (get (codes "targeting") d))
