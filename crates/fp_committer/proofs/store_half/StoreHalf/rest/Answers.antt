use Rattle.fp_committer.proofs.Keeps as keeps
use Rattle.fp_committer.proofs.store_half.StoreHalf.rest.Goals as goal

pub returns-clause-exit : goal.returns-clause-exit
returns-clause-exit g c = rw (← c.self.view_is) (keeps.kept_now g.D.Disk c.self.invariant)
