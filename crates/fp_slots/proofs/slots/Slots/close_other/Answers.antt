use Rattle.std.proofs.Common.{sym, refl}
use Rattle.std.proofs.lemmas.List.{append-nil}
use Rattle.std.proofs.lemmas.Result.{err_from_is_err_and}
use Rattle.fp_slots.proofs.Steps as steps
use Rattle.fp_slots.proofs.slots.Slots.close_other.Goals as goal

pub invariant_of-self : goal.invariant_of-self
invariant_of-self g c =
    let D = g.D.Disk in let m = g.met.D.Disk in let s = c.self.inside in
    let a = steps.at_step D m.counts_now m.present c.self.view_is c.self.invariant.0 c.requires.live
    c.requires.step in
    (steps.rested (steps.still a m.only_now c.phase-phase.ensures.outcomes) c.if-not-self.true, tt, c.self.invariant.2)

pub returns-then-not-self : goal.returns-then-not-self
returns-then-not-self g c =
    let D = g.D.Disk in let m = g.met.D.Disk in
    let a = steps.at_step D m.counts_now m.present c.self.view_is c.self.invariant.0 c.requires.live
    c.requires.step in
    let t = steps.still a m.only_now c.phase-phase.ensures.outcomes in
    rw (← c.self.view_is) (record {
      step = (refl, tt);
      left = refl;
      kept =
          steps.kept_ok t (steps.resting t c.if-not-self.true);
      called =
          rw c.if-not-self.true (sym (append-nil (D.calls c.self.inside.journal.disk)));
    })

pub invariant_of-self-in_err-write_outside : goal.invariant_of-self-in_err-write_outside
invariant_of-self-in_err-write_outside g c =
    let D = g.D.Disk in let m = g.met.D.Disk in let s = c.self.inside in let w = c.in_err-write_outside.ensures in
    let a = steps.at_step D m.counts_now m.present c.self.view_is c.self.invariant.0 c.requires.live
    c.requires.step in
    let t = steps.called a w.kept w.bodies w.phase w.begun in (
      steps.broke t (steps.closing t c.if-not-self.false),
      steps.held_on D s.journal c.write_outside.new.self s.other.start s.held
          (steps.not_open a (λ e. absurd (cc e))) c.self.invariant.1,
      c.self.invariant.2,
    )

pub returns-in_err-write_outside : goal.returns-in_err-write_outside
returns-in_err-write_outside g c =
    let D = g.D.Disk in let m = g.met.D.Disk in let w = c.in_err-write_outside.ensures in
    let a = steps.at_step D m.counts_now m.present c.self.view_is c.self.invariant.0 c.requires.live
    c.requires.step in
    let t = steps.called a w.kept w.bodies w.phase w.begun in
    let p = err_from_is_err_and c.from_residual.result c.from_residual.ensures.1 in
    rw (p.1, ← c.self.view_is) (record {
      step = (tt, a.is);
      left = refl;
      kept = steps.kept_err t (steps.closing t c.if-not-self.false);
      called =
          rw c.if-not-self.false w.called;
    })

pub invariant_of-self-2 : goal.invariant_of-self-2
invariant_of-self-2 g c =
    let D = g.D.Disk in let m = g.met.D.Disk in let w = c.in_ok-write_outside.ensures in
    let a = steps.at_step D m.counts_now m.present c.self.view_is c.self.invariant.0 c.requires.live
    c.requires.step in
    (steps.closed (steps.called a w.kept w.bodies w.phase w.begun) c.if-not-self.false (λ h. (w.written h).0), tt, c.self.invariant.2)

pub returns : goal.returns
returns g c =
    let D = g.D.Disk in let m = g.met.D.Disk in let w = c.in_ok-write_outside.ensures in
    let a = steps.at_step D m.counts_now m.present c.self.view_is c.self.invariant.0 c.requires.live
    c.requires.step in
    let t = steps.called a w.kept w.bodies w.phase w.begun in
    rw (← c.self.view_is) (record {
      step = (refl, tt);
      left = refl;
      kept =
          steps.kept_ok t (steps.closing t c.if-not-self.false);
      called = rw c.if-not-self.false w.called;
    })
