use Rattle.std.proofs.Common.{◌≡◌, drop}
use Rattle.fp_base.specs.TreeView.{tree_items}
use Rattle.fp_targeting.specs.Literal.{all_literal}
use Rattle.fp_targeting.proofs.json.are_literals.Given as goal

-- the items that are left decide as all do
abbrev pub invariant-loop-item : goal.invariant-loop-item
invariant-loop-item l = all_literal (tree_items (drop l.item-index l.items)) ≡ all_literal (tree_items l.items)
