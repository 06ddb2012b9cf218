-- Which rules are evaluated without memory, but for what they give.
use Rattle.std.specs.Prelude.{Bool, true, false, not, ◌&&◌, ◌||◌, is_some}
use Rattle.fp_machine.specs.Rule as tree
use Rattle.fp_machine.specs.Rule.{Rule, Rules, no_rules, rule}
use Rattle.fp_machine.specs.Split.{literal_in}
use Rattle.fp_machine.specs.declared.operator.Operator.{Operator}
use Rattle.fp_machine.specs.declared.operator.Operator.TheVariants.{If, And, Or, Var, Cat, SemVer}
use Rattle.fp_machine.specs.declared.operator.Operator.TheVariants.{Fractional}
use Rattle.fp_machine.specs.declared.operator.Operator.TheVariants.{Unary, Binary, Chain}

abbrev pub are_literals : Rules → Bool
are_literals no_rules = true
are_literals (rule r rs) = is_some (literal_in r) && are_literals rs

-- the operator itself makes a text, or reads versions
abbrev pub itself_needs : Operator → Bool
itself_needs If = false
itself_needs And = false
itself_needs Or = false
itself_needs Var = false
itself_needs Cat = true
itself_needs SemVer = true
itself_needs Fractional = false
itself_needs (Unary o) = false
itself_needs (Binary o) = false
itself_needs (Chain o) = false

abbrev mutual
  pub needs_memory : Rule → Bool
  needs_memory (tree.literal d) = false
  needs_memory (tree.list rs) = not (are_literals rs)
  needs_memory (tree.apply o rs) = itself_needs o || any_needs rs

  pub any_needs : Rules → Bool
  any_needs no_rules = false
  any_needs (rule r rs) = needs_memory r || any_needs rs
