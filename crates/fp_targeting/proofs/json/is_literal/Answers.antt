use Rattle.std.proofs.Common.{length, refl, sym, ap, ◌∙◌}
use Rattle.fp_base.proofs.Views.{view-Object}
use Rattle.fp_base.specs.TreeView.{tree_view}
use Rattle.fp_targeting.specs.Literal.{is_literal}
use Rattle.fp_targeting.proofs.Trees.{others-literal}
use Rattle.fp_targeting.proofs.json.is_literal.Goals as goal

pub returns-in-Object : goal.returns-in-Object
returns-in-Object c =
    let v = c.in-Object.members in
    others-literal v.now (length v.now) refl ∙ sym (ap is_literal (ap tree_view c.in-Object.is ∙ view-Object v))
