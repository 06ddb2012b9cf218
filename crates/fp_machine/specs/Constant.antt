-- Rules without an operator.
use Rattle.fp_operators.specs.Data.{Data, null, boolean, whole, text, list, object, Items}
use Rattle.fp_operators.specs.Data.{no_items, item}
use Rattle.fp_machine.specs.Rule as tree
use Rattle.fp_machine.specs.Rule.{Rule, Rules, no_rules, rule}

-- the rule that gives a datum and is written as it: a list as the list of its items
abbrev mutual
  pub constant : Data → Rule
  constant null = tree.literal null
  constant (boolean b) = tree.literal (boolean b)
  constant (whole z) = tree.literal (whole z)
  constant (text s) = tree.literal (text s)
  constant (list ds) = tree.list (constants ds)
  constant (object ms) = tree.literal (object ms)

  pub constants : Items → Rules
  constants no_items = no_rules
  constants (item d ds) = rule (constant d) (constants ds)
