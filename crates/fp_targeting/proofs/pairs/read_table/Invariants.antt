use Rattle.std.proofs.Common.{◌≡◌, Some, drop, map}
use Rattle.fp_base.specs.TreeView.{tree_items}
use Rattle.fp_targeting.specs.Compile.{items_unknown, rules_from}
use Rattle.fp_machine.specs.Split.{within_limit}
use Rattle.fp_machine.specs.Table.{share_rule}
use Rattle.fp_targeting.proofs.Tables.{total_left, behind}
use Rattle.fp_targeting.proofs.pairs.read_table.Given as goal

-- what is left decides on names and weights, and behind what was read it is all
abbrev pub invariant-loop-json : goal.invariant-loop-json
invariant-loop-json l = record {
  known : items_unknown (tree_items (drop l.json-index l.pairs)) ≡ items_unknown (tree_items l.pairs);
  read : behind (map share_rule l.shares.items) (rules_from (tree_items (drop l.json-index l.pairs))) ≡ rules_from (tree_items l.pairs);
  within : within_limit (Some l.total) ≡ Some l.total;
  weight : total_left l.total (rules_from (tree_items (drop l.json-index l.pairs))) ≡ total_left 0 (rules_from (tree_items l.pairs));
}
