use Rattle.std.proofs.Common.{◌≡◌, sym, subst}
use Rattle.fp_disk.specs.Outcomes.{IsOutcome}
use Rattle.fp_slots.proofs.Steps as steps
use Rattle.fp_slots.proofs.slots.Slots.into_disk.Goals as goal

pub returns-clause-outcomes : goal.returns-clause-outcomes
returns-clause-outcomes g c =
    let D = g.D.Disk in let q = c.into_disk.ensures in let j = c.self.inside.journal in let e : c.into_disk.result ≡ j.disk = q.disk in
    rw (← c.self.view_is, e) (steps.kept_now D c.self.invariant.0
    (λ h o left. q.outcomes (subst D.honest (sym e) h) o
    (subst (λ (d : g.row.D.Denot). IsOutcome (D.unsynced d) o) (sym e) left)))
