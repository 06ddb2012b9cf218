use Rattle.std.proofs.Common.{subst}
use Rattle.fp_edit.specs.Log.{after_all}
use Rattle.fp_recovery.specs.Stands.{StandsFor}
use Rattle.fp_committer.specs.StoreHalf.{way_by}
use Rattle.fp_committer.specs.Way.{Taken, read_edits}
use Rattle.fp_committer.proofs.Keeps as keeps
use Rattle.fp_committer.proofs.committer.Committer.into_disk.Goals as goal

pub returns-clause-outcomes : goal.returns-clause-outcomes
returns-clause-outcomes g c = rw (← c.self.view_is)
    (λ h o out. keeps.kept_from g.D.Disk c.self.invariant c.rest.ensures.whole o
    (c.into_disk.ensures.outcomes h o out))

pub returns-clause-reads : goal.returns-clause-reads
returns-clause-reads g c = rw (← c.self.view_is) c.into_disk.ensures.reads

pub returns-clause-stands : goal.returns-clause-stands
returns-clause-stands g c =
    let D = g.D.Disk in let b = c.self.inside.store in
    rw (← c.self.view_is) (λ h well. subst
    (λ (t : Taken). StandsFor (D.bytes c.into_disk.result) (after_all t.start (read_edits t (way_by b))))
    (keeps.taken_is D c.self.invariant c.rest.ensures.whole) (c.into_disk.ensures.stands h well))
