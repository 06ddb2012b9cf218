use Rattle.std.proofs.Common.{◌≡◌, drop}
use Rattle.fp_operators.specs.View.{view, items_view}
use Rattle.fp_operators.specs.Text.{is_among}
use Rattle.fp_operators.proofs.text.item_occurs.Given as goal

abbrev pub invariant-loop-item : goal.invariant-loop-item
invariant-loop-item l = is_among (view l.datum) (items_view (drop l.item-index l.item-items)) ≡ is_among
    (view l.datum) (items_view l.item-items)
