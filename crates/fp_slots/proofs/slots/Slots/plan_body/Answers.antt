use Rattle.std.proofs.Common.{rules, refl, ◌+◌, ◌≤◌, length, ◌∙◌, arith}
use Rattle.std.specs.Prelude.{slice_range}
use Rattle.fp_slots.proofs.Fronts.{put_behind, there_is}
use Rattle.fp_slots.proofs.Lengthening as growing_law
use Rattle.fp_slots.proofs.slots.Slots.plan_body.Goals as goal

pub put_behind-requires : goal.put_behind-requires
put_behind-requires g c =
    let D = g.D.Disk in let s = c.self.inside in
    let shut = growing_law.planned_is D c.self.view_is c.self.invariant.0 c.requires.growing in
    let there = there_is s.planned.items s.ended c.self.invariant.2.there shut in
    let all : s.ended + 1 ≤ length s.planned.items = omega (arith, there) in all

pub invariant_of-self-2 : goal.invariant_of-self-2
invariant_of-self-2 g c =
    let D = g.D.Disk in let s = c.self.inside in let z = c.self.invariant.2 in
    let new = c.put_behind.new.planned.items in let more = c.as_slice.result.now in
    let shut = growing_law.planned_is D c.self.view_is c.self.invariant.0 c.requires.growing in
    let f = put_behind s.planned.items (slice_range s.planned.items 0 s.ended) s.ended z.there shut refl new more
    (search rules) in let there = f.there in (
      growing_law.readied D c.self.view_is c.self.invariant.0 c.requires.growing c.requires.live new s.ended more f,
      c.self.invariant.1,
      record { there = omega (arith, there); image = z.image; part = z.part },
    )

pub returns-clause-same : goal.returns-clause-same
returns-clause-same g c =
    let D = g.D.Disk in let s = c.self.inside in let new = c.put_behind.new.planned.items in
    let more = c.as_slice.result.now in
    let shut = growing_law.planned_is D c.self.view_is c.self.invariant.0 c.requires.growing in
    let f = put_behind s.planned.items (slice_range s.planned.items 0 s.ended) s.ended c.self.invariant.2.there shut
    refl new more (search rules) in
    rw (← c.self.view_is) (refl, refl, refl, refl, refl, refl, f.front, refl, refl)

pub returns-clause-ready : goal.returns-clause-ready
returns-clause-ready g c =
    let D = g.D.Disk in let s = c.self.inside in let new = c.put_behind.new.planned.items in
    let more = c.as_slice.result.now in
    let shut = growing_law.planned_is D c.self.view_is c.self.invariant.0 c.requires.growing in
    let f = put_behind s.planned.items (slice_range s.planned.items 0 s.ended) s.ended c.self.invariant.2.there shut
    refl new more (search rules) in f.back ∙ c.as_slice.ensures
