use Rattle.std.proofs.Common.{[], sym}
use Rattle.std.proofs.lemmas.List.{append-nil}
use Rattle.fp_committer.specs.Way.{Seals}
use Rattle.fp_committer.proofs.Keeps as keeps
use Rattle.fp_committer.proofs.committer.Committer.sync_gate.Goals as goal

pub returns : goal.returns
returns g c =
    let i = c.self.invariant in let whole = c.rest.ensures.whole in let e = c.sync_gate.ensures in
    rw (← c.self.view_is) (record {
      steps = keeps.carries g.D.Disk i whole e.kept Seals e.steps;
      log = sym (append-nil _);
      settled = ([], append-nil _);
      kept = keeps.carried g.D.Disk i whole e.kept;
      called = e.called;
    })
