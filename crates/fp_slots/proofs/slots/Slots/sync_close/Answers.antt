use Rattle.std.proofs.Common.{refl}
use Rattle.std.proofs.lemmas.Result.{err_from_is_err_and}
use Rattle.fp_slots.proofs.Steps as steps
use Rattle.fp_slots.proofs.slots.Slots.sync_close.Goals as goal

pub invariant_of-self : goal.invariant_of-self
invariant_of-self g c =
    let D = g.D.Disk in let m = g.met.D.Disk in let s = c.self.inside in let w = c.in_err-_closed.ensures in
    let a = steps.at_step D m.counts_now m.present c.self.view_is c.self.invariant.0 c.requires.live
    c.requires.step in
    let t = steps.called a w.kept w.bodies w.phase w.begun in (
      steps.broke t (steps.shutting t),
      steps.held_on D s.journal c.sync.new.self s.other.start s.held (steps.not_open a (λ e. absurd (cc e)))
          c.self.invariant.1,
      c.self.invariant.2,
    )

pub returns-in_err-_closed : goal.returns-in_err-_closed
returns-in_err-_closed g c =
    let D = g.D.Disk in let m = g.met.D.Disk in let w = c.in_err-_closed.ensures in
    let a = steps.at_step D m.counts_now m.present c.self.view_is c.self.invariant.0 c.requires.live
    c.requires.step in
    let t = steps.called a w.kept w.bodies w.phase w.begun in
    let p = err_from_is_err_and c.from_residual.result c.from_residual.ensures.1 in
    rw (p.1, ← c.self.view_is) (record { step = (tt, a.is); left = refl; kept = steps.kept_err t (steps.shutting t); called = w.called })

pub invariant_of-self-2 : goal.invariant_of-self-2
invariant_of-self-2 g c =
    let D = g.D.Disk in let m = g.met.D.Disk in let w = c.in_ok-_closed.ensures in
    let a = steps.at_step D m.counts_now m.present c.self.view_is c.self.invariant.0 c.requires.live
    c.requires.step in
    (steps.close_synced (steps.called a w.kept w.bodies w.phase w.begun) (λ h. (w.same_bytes h, w.durable h)), tt, c.self.invariant.2)

pub returns : goal.returns
returns g c =
    let D = g.D.Disk in let m = g.met.D.Disk in let w = c.in_ok-_closed.ensures in
    let a = steps.at_step D m.counts_now m.present c.self.view_is c.self.invariant.0 c.requires.live
    c.requires.step in
    let t = steps.called a w.kept w.bodies w.phase w.begun in
    rw (← c.self.view_is) (record { step = (refl, tt); left = refl; kept = steps.kept_ok t (steps.shutting t); called = w.called })
