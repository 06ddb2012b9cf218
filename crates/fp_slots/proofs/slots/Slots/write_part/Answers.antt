use Rattle.std.proofs.Common.{refl, ◌≡◌, inl, inr, ℕ, ◌+◌, ◌-◌, ◌<◌, ◌≤◌, List, [], ◌∷◌, ◌++◌, sym, ◌∙◌, arith, length}
use Rattle.std.proofs.lemmas.Result.{err_from_is_err_and}
use Rattle.std.specs.Prelude.{slice_range, min as least}
use Rattle.fp_disk.specs.Outcomes.{PendingState, Written, with_write}
use Rattle.fp_slots.specs.Calls.{IsPartWritten}
use Rattle.fp_slots.specs.State.{IsWithin, step_of}
use Rattle.fp_slots.specs.declared.places.TheConstants.{PART}
use Rattle.fp_slots.specs.declared.slots.Step.TheVariants.{Tail}
use Rattle.fp_slots.proofs.Fronts.{range_of_front, shut_size, written_of_front}
use Rattle.fp_slots.proofs.Steps as steps
use Rattle.fp_slots.proofs.slots.Slots.write_part.Goals as goal

-- what was written is the next part, at its place
part_written : {D : Type 0} (bytes : D → List ℕ) (unsynced : D → PendingState) (old new : D) (slot : ℕ)
    (planned : List ℕ) (ended head done n : ℕ) (piece : List ℕ)
    → done ≤ head → done + n ≤ ended → ended ≤ length planned → n ≡ least (head - done) PART →
    piece ≡ slice_range planned done (done + n) → length piece ≡ done + n - done
    → Written (bytes old) (slot + done) piece (bytes new) × (unsynced new ≡ with_write (unsynced old) (slot + done) (length piece))
    → IsPartWritten bytes unsynced old new (slot + (head - (head - done)))
    (slice_range (slice_range planned 0 ended) (head - (head - done))
    (head - (head - done) + least (head - done) PART)) (least (head - done) PART)
part_written bytes unsynced old new slot planned ended head done n piece past within there n_is piece_is len_is both =
    let back : head - (head - done) ≡ done = omega (arith, past) in
    let len : length piece ≡ n = omega (arith, len_is) in
    let range : slice_range (slice_range planned 0 ended) done (done + n) ≡ piece =
    range_of_front planned done (done + n) ended (omega arith) within there ∙ sym piece_is in
    rw (back, ← n_is, range, ← len) (record { text = both.0; pending = both.1 })

-- the gate behind the text is there, and the part ends within the image and in front of that gate
numbers : (planned : List ℕ) (ended head done n : ℕ) → IsWithin planned ended head done →
    slice_range planned 0 (ended + 1) ≡ slice_range planned 0 ended ++ 0 ∷ [] → n ≡ least (head - done) PART
    → (ended < length planned) × (done + n ≤ head) × (done + n < length (slice_range planned 0 (ended + 1)))
numbers planned ended head done n z shut n_is = let size = shut_size planned ended z.there shut in
    let long = size.1 in let image = z.image in let past = z.part in
    (size.0, omega (arith, past, n_is), omega (arith, past, n_is, image, long))

pub invariant_of-self : goal.invariant_of-self
invariant_of-self g c =
    let D = g.D.Disk in let m = g.met.D.Disk in let q = c.self.inside in let w = c.in_err-write_outside.ensures in
    let a = steps.at_step D m.counts_now m.present c.self.view_is c.self.invariant.0 c.requires.live
    c.requires.step in
    let z = numbers q.planned.items q.ended q.head q.done c.min.result c.self.invariant.2
    (steps.plan_is a).0.bytes_are c.min.ensures in let short = z.2 in let len = c.piece.ensures.len in
    let t = steps.called a w.kept w.bodies w.phase w.begun in (
      steps.broke t (steps.next_part (length c.piece.result.now) t (omega (arith, short, len))),
      steps.held_on D q.journal c.write_outside.new.self q.other.start q.held
          (steps.not_open a (λ e. absurd (cc e))) c.self.invariant.1,
      c.self.invariant.2,
    )

pub returns-in_err-write_outside : goal.returns-in_err-write_outside
returns-in_err-write_outside g c =
    let D = g.D.Disk in let m = g.met.D.Disk in let q = c.self.inside in let w = c.in_err-write_outside.ensures in
    let a = steps.at_step D m.counts_now m.present c.self.view_is c.self.invariant.0 c.requires.live
    c.requires.step in
    let z = numbers q.planned.items q.ended q.head q.done c.min.result c.self.invariant.2
    (steps.plan_is a).0.bytes_are c.min.ensures in let short = z.2 in let len = c.piece.ensures.len in
    let t = steps.called a w.kept w.bodies w.phase w.begun in
    let p = err_from_is_err_and c.from_residual.result c.from_residual.ensures.1 in
    rw (p.1, ← c.self.view_is) (record {
      step = (tt, a.is);
      less = tt;
      written = λ h. tt;
      left = refl;
      kept =
          steps.kept_err t (steps.next_part (length c.piece.result.now) t (omega (arith, short, len)));
      called =
          w.called;
    })

pub invariant_of-self-2 : goal.invariant_of-self-2
invariant_of-self-2 g c =
    let D = g.D.Disk in let m = g.met.D.Disk in let q = c.self.inside in let w = c.in_ok-write_outside.ensures in
    let a = steps.at_step D m.counts_now m.present c.self.view_is c.self.invariant.0 c.requires.live
    c.requires.step in
    let z = numbers q.planned.items q.ended q.head q.done c.min.result c.self.invariant.2
    (steps.plan_is a).0.bytes_are c.min.ensures in let to_head = z.1 in let short = z.2 in
    let image = c.self.invariant.2.image in
    let t = steps.called a w.kept w.bodies w.phase w.begun in (
      steps.next_written (length c.piece.result.now) (q.done + c.min.result) (omega arith) (omega (arith, short))
          (λ h. written_of_front (q.other.start + q.done) (D.bytes q.journal.disk) q.planned.items q.done
          (q.done + c.min.result) q.ended (omega arith) (omega (arith, to_head, image)) z.0 c.piece.ensures.bytes
          (w.written h).0) t Tail (q.head - (q.done + c.min.result)) (inr refl) short,
      tt,
      record { there = c.self.invariant.2.there; image = image; part = to_head },
    )

pub returns : goal.returns
returns g c =
    let D = g.D.Disk in let m = g.met.D.Disk in let q = c.self.inside in let w = c.in_ok-write_outside.ensures in
    let a = steps.at_step D m.counts_now m.present c.self.view_is c.self.invariant.0 c.requires.live
    c.requires.step in
    let z = numbers q.planned.items q.ended q.head q.done c.min.result c.self.invariant.2
    (steps.plan_is a).0.bytes_are c.min.ensures in let to_head = z.1 in let short = z.2 in
    let image = c.self.invariant.2.image in let len = c.piece.ensures.len in let min = c.min.ensures in
    let t = steps.called a w.kept w.bodies w.phase w.begun in
    rw (← c.self.view_is) (record {
      step = ((λ more. absurd (omega (arith, min, more, c.if-to-self.false)), λ all. refl), tt);
      less = omega (arith, min);
      written = λ h. part_written D.bytes D.unsynced q.journal.disk c.write_outside.new.self.disk q.other.start
          q.planned.items q.ended q.head q.done c.min.result c.piece.result.now c.self.invariant.2.part
          (omega (arith, to_head, image)) c.self.invariant.2.there min c.piece.ensures.bytes len (w.written h);
      left = tt;
      kept = steps.kept_ok t (steps.next_part (length c.piece.result.now) t (omega (arith, short, len)));
      called = w.called;
    })

pub invariant_of-self-then-to-self : goal.invariant_of-self-then-to-self
invariant_of-self-then-to-self g c =
    let D = g.D.Disk in let m = g.met.D.Disk in let q = c.self.inside in let w = c.in_ok-write_outside.ensures in
    let a = steps.at_step D m.counts_now m.present c.self.view_is c.self.invariant.0 c.requires.live
    c.requires.step in
    let z = numbers q.planned.items q.ended q.head q.done c.min.result c.self.invariant.2
    (steps.plan_is a).0.bytes_are c.min.ensures in let to_head = z.1 in let short = z.2 in
    let image = c.self.invariant.2.image in
    let t = steps.called a w.kept w.bodies w.phase w.begun in (
      steps.next_written (length c.piece.result.now) (q.done + c.min.result) (omega arith) (omega (arith, short))
          (λ h. written_of_front (q.other.start + q.done) (D.bytes q.journal.disk) q.planned.items q.done
          (q.done + c.min.result) q.ended (omega arith) (omega (arith, to_head, image)) z.0 c.piece.ensures.bytes
          (w.written h).0) t (step_of q.held) (q.head - (q.done + c.min.result)) (inl a.is) short,
      steps.held_on D q.journal c.write_outside.new.self q.other.start q.held
          (steps.not_open a (λ e. absurd (cc e))) c.self.invariant.1,
      record { there = c.self.invariant.2.there; image = image; part = to_head },
    )

pub returns-then-to-self : goal.returns-then-to-self
returns-then-to-self g c =
    let D = g.D.Disk in let m = g.met.D.Disk in let q = c.self.inside in let w = c.in_ok-write_outside.ensures in
    let a = steps.at_step D m.counts_now m.present c.self.view_is c.self.invariant.0 c.requires.live
    c.requires.step in
    let z = numbers q.planned.items q.ended q.head q.done c.min.result c.self.invariant.2
    (steps.plan_is a).0.bytes_are c.min.ensures in let to_head = z.1 in let short = z.2 in
    let image = c.self.invariant.2.image in let len = c.piece.ensures.len in let min = c.min.ensures in
    let t = steps.called a w.kept w.bodies w.phase w.begun in
    rw (← c.self.view_is) (record {
      step = ((λ more. a.is, λ all. absurd (omega (arith, min, all, c.if-to-self.true))), tt);
      less = omega (arith, min);
      written = λ h. part_written D.bytes D.unsynced q.journal.disk c.write_outside.new.self.disk q.other.start
          q.planned.items q.ended q.head q.done c.min.result c.piece.result.now c.self.invariant.2.part
          (omega (arith, to_head, image)) c.self.invariant.2.there min c.piece.ensures.bytes len (w.written h);
      left = tt;
      kept = steps.kept_ok t (steps.next_part (length c.piece.result.now) t (omega (arith, short, len)));
      called = w.called;
    })

pub piece-requires : goal.piece-requires
piece-requires g c =
    let D = g.D.Disk in let m = g.met.D.Disk in let q = c.self.inside in
    let a = steps.at_step D m.counts_now m.present c.self.view_is c.self.invariant.0 c.requires.live
    c.requires.step in
    let z = numbers q.planned.items q.ended q.head q.done c.min.result c.self.invariant.2
    (steps.plan_is a).0.bytes_are c.min.ensures in let there = z.0 in let to_head = z.1 in
    let image = c.self.invariant.2.image in
    record { within = (omega arith, omega (arith, to_head, image, there)) }

pub write_outside-requires : goal.write_outside-requires
write_outside-requires g c =
    let D = g.D.Disk in let m = g.met.D.Disk in let q = c.self.inside in
    let a = steps.at_step D m.counts_now m.present c.self.view_is c.self.invariant.0 c.requires.live
    c.requires.step in
    let z = numbers q.planned.items q.ended q.head q.done c.min.result c.self.invariant.2
    (steps.plan_is a).0.bytes_are c.min.ensures in let short = z.2 in let len = c.piece.ensures.len in
    steps.part_outside a (steps.plan_is a).0 (length c.piece.result.now) (omega (arith, short, len))
