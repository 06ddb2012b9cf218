-- The one result of a rule, computed: a plain program beside the relation `Means`.
use Rattle.std.specs.Prelude.{List, [], ◌∷◌, Option, Some, None, if◌then◌else◌}
use Rattle.fp_operators.specs.Data.{Data, null}
use Rattle.fp_operators.specs.Data as values
use Rattle.fp_operators.specs.Truth.{truth}
use Rattle.fp_operators.specs.View.{items_of}
use Rattle.fp_machine.specs.Rule.{Rule, Rules, literal, list, apply, no_rules, rule}
use Rattle.fp_machine.specs.Operators.{result_of}
use Rattle.fp_machine.specs.Split.{split_value}
use Rattle.fp_machine.specs.declared.operator.Operator.{Operator}
use Rattle.fp_machine.specs.declared.operator.Operator.TheVariants.{If, And, Or}
use Rattle.fp_machine.specs.declared.operator.Operator.TheVariants.{Fractional}

-- what stands behind the first true condition, else the odd last one, else null
abbrev pub value_behind_true : List Data → Data
value_behind_true [] = null
value_behind_true (last ∷ []) = last
value_behind_true (condition ∷ x ∷ ds) = if truth condition then x else value_behind_true ds

-- the first false one, else the last, which is `last` where there is none
abbrev pub first_false : Data → List Data → Data
first_false last [] = last
first_false last (d ∷ ds) = if truth d then first_false d ds else d

abbrev pub first_true : Data → List Data → Data
first_true last [] = last
first_true last (d ∷ ds) = if truth d then d else first_true d ds

abbrev pub or_null : Option Data → Data
or_null None = null
or_null (Some x) = x

abbrev pub value_of_operator : Operator → Data → List Data → Data
value_of_operator If root ds = value_behind_true ds
value_of_operator And root ds = first_false null ds
value_of_operator Or root ds = first_true null ds
value_of_operator o root ds = or_null (result_of o root ds)

-- at its arguments and their results
abbrev pub value_at : Operator → Data → Rules → List Data → Data
value_at Fractional root rs ds = split_value root rs ds
value_at o root rs ds = value_of_operator o root ds

abbrev mutual
  pub meaning : Data → Rule → Data
  meaning root (literal x) = x
  meaning root (list rs) = values.list (items_of (meanings root rs))
  meaning root (apply o rs) = value_at o root rs (meanings root rs)

  pub meanings : Data → Rules → List Data
  meanings root no_rules = []
  meanings root (rule r rs) = meaning root r ∷ meanings root rs
