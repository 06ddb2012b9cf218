use Rattle.std.proofs.Common.{sym, ◌∙◌}
use Rattle.fp_base.specs.TreeView.{tree_view}
use Rattle.fp_imports.specs.References.{replacement}
use Rattle.fp_imports.proofs.Standing.{some-with, expansion-itself}
use Rattle.fp_imports.proofs.references.stands.Goals as goal

pub returns : goal.returns
returns c = λ h evaluators.
    let left = some-with c.uncounted.result (sym c.is_some.ensures ∙ h) c.uncounted.ensures in
    (left.0, expansion-itself (replacement evaluators 8) (tree_view c.args.targeting.now) 16384 left.0 left.1.1 left.1.0)
