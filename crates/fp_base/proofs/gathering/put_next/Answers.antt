use Rattle.std.proofs.Common.{subst}
use Rattle.fp_base.specs.Places.{AreBefore}
use Rattle.fp_base.specs.TreeView.{Entry}
use Rattle.fp_base.proofs.Gatherings.{put-at_end}
use Rattle.fp_base.proofs.gathering.put_next.Goals as goal

pub returns-then-comes_last : goal.returns-then-comes_last
returns-then-comes_last c =
    let m : Entry = (c.args.name, c.args.tree) in
    put-at_end c.args.all.now.items c.push.new.self.items m
    (subst (AreBefore c.args.name.now) c.deref.ensures.value (c.comes_last.ensures c.if-comes_last.true))
    c.in_ok-push.ensures.items
