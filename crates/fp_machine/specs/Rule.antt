-- Rules as trees.
use Rattle.fp_operators.specs.Data.{Data}
use Rattle.fp_machine.specs.declared.operator.Operator.{Operator}

mutual
  pub data Rule : Type 0 where
    literal : Data → Rule
    list : Rules → Rule
    apply : Operator → Rules → Rule

  pub data Rules : Type 0 where
    no_rules : Rules
    rule : Rule → Rules → Rules
