use Rattle.std.proofs.Common.{codes, sym}
use Rattle.fp_base.specs.TreeView.{tree_view}
use Rattle.fp_base.proofs.WholeData.{whole-get}
use Rattle.fp_base.proofs.Inside.{flat_get, ordered_get}
use Rattle.fp_definition.proofs.rules.rule_of.Goals as goal

pub rule_written-requires-clause-whole : goal.rule_written-requires-clause-whole
rule_written-requires-clause-whole c =
    whole-get (codes "targeting") (tree_view c.args.tree.now) (tree_view c.in-Some.targeting.now) c.requires.whole (sym c.in-Some.ensures)

pub rule_written-requires-clause-flat : goal.rule_written-requires-clause-flat
rule_written-requires-clause-flat c =
    flat_get 32 (codes "targeting") (tree_view c.args.tree.now) (tree_view c.in-Some.targeting.now) c.requires.flat (sym c.in-Some.ensures)

pub rule_written-requires-clause-ordered : goal.rule_written-requires-clause-ordered
rule_written-requires-clause-ordered c =
    ordered_get (codes "targeting") (tree_view c.args.tree.now) (tree_view c.in-Some.targeting.now)
    c.requires.ordered (sym c.in-Some.ensures)
