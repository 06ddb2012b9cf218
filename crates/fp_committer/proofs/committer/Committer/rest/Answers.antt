use Rattle.fp_committer.proofs.Keeps as keeps
use Rattle.fp_committer.proofs.committer.Committer.rest.Goals as goal

pub returns-clause-exit : goal.returns-clause-exit
returns-clause-exit g c = rw (← c.self.view_is)
    (λ h o out. keeps.kept_from g.D.Disk c.self.invariant c.rest.ensures.whole o (c.rest.ensures.exit h o out))
