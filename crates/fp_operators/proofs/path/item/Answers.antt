use Rattle.std.proofs.Common.{ap, ◌∙◌}
use Rattle.fp_operators.specs.View.{items_view}
use Rattle.fp_operators.specs.Path.{item_at}
use Rattle.fp_operators.proofs.Paths.{item_found}
use Rattle.fp_operators.proofs.path.item.Goals as goal

pub returns : goal.returns
returns c =
    item_found c.deref.result.now c.args.place c.get.result c.get.ensures.lookup
    ∙ ap (λ vs. item_at c.args.place (items_view vs)) c.deref.ensures.value
