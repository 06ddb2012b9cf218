use Rattle.std.proofs.Common.{◌≡◌, ◌≤◌, drop, length}
use Rattle.fp_base.specs.TreeView.{tree_items}
use Rattle.fp_operators.specs.FromJson.{items_from}
use Rattle.fp_operators.specs.View.{items_view}
use Rattle.fp_targeting.proofs.json.all_write.Given as goal

-- the items from here on write the data made from here on
abbrev pub invariant-items : goal.invariant-items
invariant-items l = record {
  within : l.left ≤ length l.items;
  long : length l.items ≡ length l.made;
  same : items_view (drop l.left l.made) ≡ items_from (tree_items (drop l.left l.items));
}

abbrev pub decreases-items : goal.decreases-items
decreases-items l = l.left
