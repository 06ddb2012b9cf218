-- The pairs of `fractional`, as they are kept.
use Rattle.std.specs.Prelude.{ℕ, List, map, pos, Option, Some, None}
use Rattle.fp_operators.specs.Data.{Data, whole}
use Rattle.fp_operators.specs.View.{view}
use Rattle.fp_machine.specs.Rule as tree
use Rattle.fp_machine.specs.Rule.{Rule, Rules, no_rules, rule}
use Rattle.fp_machine.specs.View.{rules_of}
use Rattle.fp_machine.specs.declared.table.Share.{Share}

-- the pair of a name and a weight, as a rule
abbrev pub pair_rule : Data → Option ℕ → Rule
pair_rule name None = tree.list (rule (tree.literal name) no_rules)
pair_rule name (Some w) =
    tree.list (rule (tree.literal name) (rule (tree.literal (whole (pos w))) no_rules))

-- a pair that is kept
abbrev pub share_rule : Share → Rule
share_rule s = pair_rule (view s.name) s.weight

abbrev pub pairs_view : List Share → Rules
pairs_view ss = rules_of (map share_rule ss)
