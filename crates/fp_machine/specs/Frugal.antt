-- Code that asks for no memory.
use Rattle.std.specs.Prelude.{◌≡◌, ◌≤◌, List, [], ◌∷◌, Bool, true, false, ◌||◌}
use Rattle.fp_machine.specs.declared.code.Code.{Code}
use Rattle.fp_machine.specs.declared.code.Step.{Step}
use Rattle.fp_machine.specs.declared.code.Step.TheVariants.{Load, LoadNull, LoadWhole, Keep, KeepOf}
use Rattle.fp_machine.specs.declared.code.Step.TheVariants.{Skip, SkipIfFalse, SkipIfTrue, Find}
use Rattle.fp_machine.specs.declared.code.Step.TheVariants.{FindVariable, One, Two, Three}
use Rattle.fp_machine.specs.declared.code.Step.TheVariants.{Second, Third, Join, Collect, Split}
use Rattle.fp_machine.specs.declared.code.Step.TheVariants.{SplitByOwnKey, Wrap, End}
use Rattle.fp_machine.specs.declared.operator.Operator.{Operator}
use Rattle.fp_machine.specs.declared.operator.Operator.TheVariants.{SemVer}
use Rattle.fp_machine.specs.Numbers.{DEEPEST_RULE}

abbrev pub is_sem_ver : Operator → Bool
is_sem_ver SemVer = true
is_sem_ver o = false

-- the instruction asks for memory
abbrev pub asks : Step → Bool
asks (Load o) = false
asks LoadNull = false
asks (LoadWhole z) = false
asks Keep = false
asks (KeepOf o) = false
asks (Skip n) = false
asks (SkipIfFalse n) = false
asks (SkipIfTrue n) = false
asks (Find n) = false
asks (FindVariable path n) = false
asks (One o a) = false
asks (Two o a b) = false
asks (Three o a b) = is_sem_ver o
asks (Second o) = false
asks (Third o) = is_sem_ver o
asks (Join n) = true
asks (Collect n) = true
asks Wrap = true
asks (Split a pairs) = false
asks (SplitByOwnKey pairs) = false
asks (End o n) = false

abbrev pub any_asks : List Step → Bool
any_asks [] = false
any_asks (c ∷ cs) = asks c || any_asks cs

-- results that are kept have their places, and no instruction asks for memory
pub record IsFrugal (code : Code) : Type 0 where
  pub room : code.room ≤ DEEPEST_RULE
  pub steps : any_asks code.steps.items ≡ false
