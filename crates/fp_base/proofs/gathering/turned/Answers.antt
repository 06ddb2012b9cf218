use Rattle.std.proofs.Common.{ap, ◌∙◌}
use Rattle.fp_base.specs.TreeView.{tree_members}
use Rattle.fp_base.proofs.Gatherings.{turned-laid}
use Rattle.fp_base.proofs.gathering.turned.Goals as goal

pub returns-clause-members : goal.returns-clause-members
returns-clause-members c = ap tree_members c.reverse.ensures.items ∙ turned-laid c.args.falling.items c.requires
