use Rattle.fp_base.specs.TreeView.{tree_view, tree_members}
use Rattle.fp_imports.proofs.Orders.{expanded-ordered}
use Rattle.fp_imports.proofs.references.expand.Goals as goal

pub returns-clause-ordered : goal.returns-clause-ordered
returns-clause-ordered c =
    expanded-ordered (tree_members c.args.evaluators.now) (tree_view c.args.targeting.now) c.expand_value.result
    c.requires.evaluators c.requires.targeting c.expand_value.ensures
