use Rattle.std.proofs.Common.{refl, ◌≤◌, ◌+◌, ap, sym, ◌∙◌, arith, length}
use Rattle.std.proofs.lemmas.Result.{err_from_is_err_and}
use Rattle.fp_slots.specs.State.{SlotsState}
use Rattle.fp_slots.proofs.Fronts.{shut_size, written_of_front}
use Rattle.fp_slots.proofs.Steps as steps
use Rattle.fp_slots.proofs.slots.Slots.write_tail.Goals as goal

pub invariant_of-self : goal.invariant_of-self
invariant_of-self g c =
    let D = g.D.Disk in let m = g.met.D.Disk in let q = c.self.inside in let w = c.in_err-write_outside.ensures in
    let a = steps.at_step D m.counts_now m.present c.self.view_is c.self.invariant.0
    (λ e. absurd (cc (sym c.requires.live ∙ e))) c.requires.step in
    let size = shut_size q.planned.items q.ended c.self.invariant.2.there (steps.plan_is a).0.bytes_are in
    let long = size.1 in let image = c.self.invariant.2.image in let past = c.self.invariant.2.part in
    let len = c.piece.ensures.len in
    let t = steps.called a w.kept w.bodies w.phase w.begun in (
      steps.broke t (steps.tail (length c.piece.result.now) t (omega (arith, long, len, image, past))),
      steps.held_on D q.journal c.write_outside.new.self q.other.start q.held
          (steps.not_open a (λ e. absurd (cc e))) c.self.invariant.1,
      c.self.invariant.2,
    )

pub returns-in_err-write_outside : goal.returns-in_err-write_outside
returns-in_err-write_outside g c =
    let D = g.D.Disk in let m = g.met.D.Disk in let q = c.self.inside in let w = c.in_err-write_outside.ensures in
    let a = steps.at_step D m.counts_now m.present c.self.view_is c.self.invariant.0
    (λ e. absurd (cc (sym c.requires.live ∙ e))) c.requires.step in
    let size = shut_size q.planned.items q.ended c.self.invariant.2.there (steps.plan_is a).0.bytes_are in
    let long = size.1 in let image = c.self.invariant.2.image in let past = c.self.invariant.2.part in
    let len = c.piece.ensures.len in
    let t = steps.called a w.kept w.bodies w.phase w.begun in
    let p = err_from_is_err_and c.from_residual.result c.from_residual.ensures.1 in
    rw (p.1, ← c.self.view_is) (record {
      step = (tt, a.is);
      left = refl;
      kept =
          steps.kept_err t (steps.tail (length c.piece.result.now) t (omega (arith, long, len, image, past)));
      called =
          w.called;
    })

pub invariant_of-self-2 : goal.invariant_of-self-2
invariant_of-self-2 g c =
    let D = g.D.Disk in let m = g.met.D.Disk in let q = c.self.inside in let w = c.in_ok-write_outside.ensures in
    let a = steps.at_step D m.counts_now m.present c.self.view_is c.self.invariant.0
    (λ e. absurd (cc (sym c.requires.live ∙ e))) c.requires.step in
    let size = shut_size q.planned.items q.ended c.self.invariant.2.there (steps.plan_is a).0.bytes_are in
    let long = size.1 in let image = c.self.invariant.2.image in let past = c.self.invariant.2.part in
    let le : q.done ≤ q.ended + 1 = omega (arith, image, past) in (
      steps.tail_written (length c.piece.result.now) (q.ended + 1) le (omega (arith, long))
          (λ h. written_of_front (q.other.start + q.done) (D.bytes q.journal.disk) q.planned.items q.done
          (q.ended + 1) q.ended le (omega arith) size.0 c.piece.ensures.bytes (w.written h).0)
          (steps.called a w.kept w.bodies w.phase w.begun) (sym long)
          (ap (λ (k : SlotsState g.row.D.Denot). k.journal.phase) c.self.view_is ∙ c.requires.live),
      tt,
      c.self.invariant.2,
    )

pub returns : goal.returns
returns g c =
    let D = g.D.Disk in let m = g.met.D.Disk in let q = c.self.inside in let w = c.in_ok-write_outside.ensures in
    let a = steps.at_step D m.counts_now m.present c.self.view_is c.self.invariant.0
    (λ e. absurd (cc (sym c.requires.live ∙ e))) c.requires.step in
    let size = shut_size q.planned.items q.ended c.self.invariant.2.there (steps.plan_is a).0.bytes_are in
    let long = size.1 in let image = c.self.invariant.2.image in let past = c.self.invariant.2.part in
    let len = c.piece.ensures.len in
    let t = steps.called a w.kept w.bodies w.phase w.begun in
    rw (← c.self.view_is) (record {
      step = (refl, tt);
      left = refl;
      kept =
          steps.kept_ok t (steps.tail (length c.piece.result.now) t (omega (arith, long, len, image, past)));
      called =
          w.called;
    })

pub piece-requires : goal.piece-requires
piece-requires g c =
    let D = g.D.Disk in let m = g.met.D.Disk in let q = c.self.inside in
    let a = steps.at_step D m.counts_now m.present c.self.view_is c.self.invariant.0
    (λ e. absurd (cc (sym c.requires.live ∙ e))) c.requires.step in
    let size = shut_size q.planned.items q.ended c.self.invariant.2.there (steps.plan_is a).0.bytes_are in
    let long = size.1 in let there = size.0 in let image = c.self.invariant.2.image in
    let past = c.self.invariant.2.part in record { within = (omega (arith, past, image), omega (arith, there)) }

pub write_outside-requires : goal.write_outside-requires
write_outside-requires g c =
    let D = g.D.Disk in let m = g.met.D.Disk in let q = c.self.inside in
    let a = steps.at_step D m.counts_now m.present c.self.view_is c.self.invariant.0
    (λ e. absurd (cc (sym c.requires.live ∙ e))) c.requires.step in
    let size = shut_size q.planned.items q.ended c.self.invariant.2.there (steps.plan_is a).0.bytes_are in
    let long = size.1 in let image = c.self.invariant.2.image in let past = c.self.invariant.2.part in
    let len = c.piece.ensures.len in
    steps.part_outside a (steps.plan_is a).0 (length c.piece.result.now) (omega (arith, long, len, image, past))
