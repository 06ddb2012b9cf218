use Rattle.std.proofs.Common.{rules, ◌≤◌}
use Rattle.fp_desk.specs.Desk.{settled_revision}
use Rattle.fp_committer.proofs.Keeps as keeps
use Rattle.fp_committer.proofs.committer.Committer.tell.Goals as goal

pub returns-clause-exit : goal.returns-clause-exit
returns-clause-exit g c =
    let d = c.self.inside.desk.desk in let b = c.self.inside.store in let i = c.self.invariant in
    let low : c.max-self-inside.result ≤ settled_revision d = search rules in
    λ h o out. keeps.told_kept d b c.max-self-inside.result i.halves.same i.agree.0 i.agree.1 c.rest.ensures.whole
    low o (c.rest.ensures.exit h o out)
