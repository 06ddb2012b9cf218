use Rattle.std.proofs.Common.{option_map, codes, sym, ap, ◌∙◌}
use Rattle.fp_base.specs.TreeView.{tree_view}
use Rattle.fp_base.proofs.Inside.{ordered_get}
use Rattle.fp_ofrep.proofs.context.context_of_tree.Goals as goal

pub tested-requires : goal.tested-requires
tested-requires c =
    ordered_get (codes "context") (tree_view c.args.body.now) (tree_view c.in-Some.context.now) c.requires
    (sym c.get.ensures ∙ ap (option_map (λ t. tree_view t.now)) c.in-Some.is)
