use Rattle.std.proofs.Common.{subst}
use Rattle.fp_edit.specs.Flags.{State}
use Rattle.fp_recovery.specs.Stands.{StandsFor}
use Rattle.fp_committer.proofs.Keeps as keeps
use Rattle.fp_committer.proofs.Ways as ways
use Rattle.fp_committer.proofs.store_half.StoreHalf.into_disk.Goals as goal

pub returns-clause-outcomes : goal.returns-clause-outcomes
returns-clause-outcomes g c =
    let i = c.self.invariant in
    rw (← c.self.view_is) (λ h o out. keeps.leaves_kept c.self.inside.store c.self.inside.half c.self.inside.held
    i.out i.whole o (c.into_disk.ensures.outcomes h o out))

pub returns-clause-stands : goal.returns-clause-stands
returns-clause-stands g c =
    let D = g.D.Disk in let i = c.self.invariant in let s = c.self.inside.store in
    rw (← c.self.view_is) (λ h well. subst (λ (t : State). StandsFor (D.bytes c.into_disk.result) t)
    (ways.reads_as s c.self.inside.half.settled c.self.inside.held i.out) (c.into_disk.ensures.reads h well))
