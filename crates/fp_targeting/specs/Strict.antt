-- What operators look at.
use Rattle.std.specs.Prelude.{ℕ, Bool, true, false}
use Rattle.fp_machine.specs.declared.operator.Operator.{Operator}
use Rattle.fp_machine.specs.declared.operator.Operator.TheVariants.{If, And, Or, Var, Cat, SemVer}
use Rattle.fp_machine.specs.declared.operator.Operator.TheVariants.{Fractional}
use Rattle.fp_machine.specs.declared.operator.Operator.TheVariants.{Unary, Binary, Chain}
use Rattle.fp_machine.specs.declared.code.Step.{Step}
use Rattle.fp_machine.specs.declared.code.Step.TheVariants.{SkipIfFalse, SkipIfTrue}

-- at the results of all their arguments, of which there are one to three, and at nothing else
abbrev pub is_strict : Operator → Bool
is_strict If = false
is_strict And = false
is_strict Or = false
is_strict Var = false
is_strict Cat = false
is_strict SemVer = true
is_strict Fractional = false
is_strict (Unary o) = true
is_strict (Binary o) = true
is_strict (Chain o) = true

-- operators other than `fractional` don't look at how their arguments are written
abbrev pub looks_at_results : Operator → Bool
looks_at_results If = true
looks_at_results And = true
looks_at_results Or = true
looks_at_results Var = true
looks_at_results Cat = true
looks_at_results SemVer = true
looks_at_results Fractional = false
looks_at_results (Unary o) = true
looks_at_results (Binary o) = true
looks_at_results (Chain o) = true

-- at arguments only until one decides
abbrev pub stops : Operator → Bool
stops If = false
stops And = true
stops Or = true
stops Var = false
stops Cat = false
stops SemVer = false
stops Fractional = false
stops (Unary o) = false
stops (Binary o) = false
stops (Chain o) = false

-- the instruction that skips what is left where an argument decides
abbrev pub skip_past : Operator → ℕ → Step
skip_past If n = SkipIfTrue n
skip_past And n = SkipIfFalse n
skip_past Or n = SkipIfTrue n
skip_past Var n = SkipIfTrue n
skip_past Cat n = SkipIfTrue n
skip_past SemVer n = SkipIfTrue n
skip_past Fractional n = SkipIfTrue n
skip_past (Unary o) n = SkipIfTrue n
skip_past (Binary o) n = SkipIfTrue n
skip_past (Chain o) n = SkipIfTrue n
