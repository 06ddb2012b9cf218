use Rattle.std.proofs.Common.{◌≡◌, drop}
use Rattle.fp_base.specs.TreeView.{tree_items}
use Rattle.fp_targeting.specs.Compile.{items_unknown}
use Rattle.fp_targeting.proofs.names.+names.Given as goal

-- the items that are left decide for all
abbrev pub invariant-unknown_among-loop-item : goal.invariant-unknown_among-loop-item
invariant-unknown_among-loop-item l = items_unknown (tree_items (drop l.item-index l.items)) ≡ items_unknown (tree_items l.items)
