use Rattle.fp_base.specs.TreeView.{tree_items}
use Rattle.fp_targeting.proofs.Splitting.{compiled-pairs}
use Rattle.fp_targeting.proofs.builder.Builder.split_by_own_key.Goals as goal

pub returns : goal.returns
returns c =
    let r = c.in_ok-table.ensures in
    compiled-pairs (tree_items c.args.pairs.now) c.in-Some.table c.args.self.now.code c.push.new.self.code
    (r.pairs c.in-Some.table c.in-Some.is) (r.known c.in-Some.table c.in-Some.is)
    (r.total c.in-Some.table c.in-Some.is) c.in_ok-push.ensures
