use Rattle.std.proofs.Common.{◌≡◌, ◌+◌, [], drop, sym, subst, refl, arith}
use Rattle.std.specs.Prelude.{slice_range}
use Rattle.fp_journal.specs.Chain.{body_of, with_gate}
use Rattle.fp_slots.specs.State.{SlotsState}
use Rattle.fp_slots.proofs.Fronts.{there_is, opened}
use Rattle.fp_slots.proofs.Lengthening as growing_law
use Rattle.fp_slots.proofs.slots.Slots.lengthen.Goals as goal

pub open_between-self-inside-requires : goal.open_between-self-inside-requires
open_between-self-inside-requires g c =
    let D = g.D.Disk in let shut = growing_law.planned_is D c.self.view_is c.self.invariant.0 c.requires.growing in
    there_is c.self.inside.planned.items c.self.inside.ended c.self.invariant.2.there shut

pub invariant_of-self : goal.invariant_of-self
invariant_of-self g c =
    let D = g.D.Disk in let s = c.self.inside in let z = c.self.invariant.2 in let old = s.planned.items in
    let new = c.open_between-self-inside in
    let shut = growing_law.planned_is D c.self.view_is c.self.invariant.0 c.requires.growing in
    let ready : drop (s.ended + 1) old ≡ with_gate (body_of (drop (s.ended + 1) old)) =
    subst (λ (k : SlotsState g.row.D.Denot). k.coming ≡ with_gate (body_of k.coming)) (sym c.self.view_is)
    c.requires.ready in
    let o = opened old (slice_range old 0 s.ended) s.ended z.there shut refl (body_of (drop (s.ended + 1) old)) ready
    new.new.planned.items new.result new.ensures.opened new.ensures.last in
    let there = o.0.there in let grew = o.1 in let image = z.image in (
      growing_law.lengthened D c.self.view_is c.self.invariant.0 c.requires.growing c.requires.live
          new.new.planned.items new.result [] c.requires.fits o.0,
      c.self.invariant.1,
      record { there = omega (arith, there); image = omega (arith, image, grew); part = z.part },
    )

pub returns-clause-grown : goal.returns-clause-grown
returns-clause-grown g c =
    let D = g.D.Disk in let s = c.self.inside in let old = s.planned.items in let new = c.open_between-self-inside in
    let shut = growing_law.planned_is D c.self.view_is c.self.invariant.0 c.requires.growing in
    let ready : drop (s.ended + 1) old ≡ with_gate (body_of (drop (s.ended + 1) old)) =
    subst (λ (k : SlotsState g.row.D.Denot). k.coming ≡ with_gate (body_of k.coming)) (sym c.self.view_is)
    c.requires.ready in
    let o = opened old (slice_range old 0 s.ended) s.ended c.self.invariant.2.there shut refl
    (body_of (drop (s.ended + 1) old)) ready new.new.planned.items new.result new.ensures.opened new.ensures.last
    in
    rw (← c.self.view_is) (o.0.front, o.0.back)
