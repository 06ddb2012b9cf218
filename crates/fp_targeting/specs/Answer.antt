-- What the faults of compiling tell.
use Rattle.std.specs.Prelude.{ℕ, List, Option, None, Some, string_bytes}
use Rattle.fp_targeting.specs.Compile.{Fault, too_deep, unsupported, bad}
use Rattle.fp_targeting.specs.declared.rule.RuleFault.{RuleFault}
use Rattle.fp_targeting.specs.declared.rule.RuleFault.TheVariants.{TooDeep, UnsupportedOperator}
use Rattle.fp_targeting.specs.declared.rule.RuleFault.TheVariants.{BadRule, Memory}

-- of the value; want of memory tells nothing
abbrev pub Tells : RuleFault → (Fault → Type 0) → Type 0
Tells TooDeep Has = Has too_deep
Tells (UnsupportedOperator name) Has = Has (unsupported (string_bytes name))
Tells BadRule Has = Has bad
Tells Memory Has = Unit {0}

-- the first unknown operator, or else a bad rule
abbrev pub unknown_or_bad : Option (List ℕ) → Fault
unknown_or_bad None = bad
unknown_or_bad (Some name) = unsupported name
