use Rattle.fp_committer.proofs.Courses.{fresh_through}
use Rattle.fp_server.proofs.serving.untouched.Goals as goal

pub returns : goal.returns
returns g c =
    let f = c.requires in fresh_through g.D.Disk g.met.D.Disk.only_now c.args.store.now f.sealed f.phase c.phase.ensures.outcomes
