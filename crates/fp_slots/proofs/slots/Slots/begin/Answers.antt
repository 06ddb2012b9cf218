use Rattle.std.proofs.Common.{◌<◌, ◌+◌, ◌-◌, ◌^◌, ℕ, ◌∷◌, [], ◌++◌, length, drop, ap, sym, ◌∙◌, subst, arith}
use Rattle.std.specs.Prelude.{slice_range}
use Rattle.fp_slots.specs.Head.{head_text}
use Rattle.fp_slots.specs.State.{SlotsState}
use Rattle.fp_slots.specs.declared.places.TheConstants.{IMAGE_PLACE, VERSION}
use Rattle.fp_slots.proofs.Beside.{head_long, head_plan}
use Rattle.fp_slots.proofs.Fronts.{in_front}
use Rattle.fp_slots.proofs.EarlySteps as early_steps
use Rattle.fp_slots.proofs.Steps as steps
use Rattle.fp_slots.proofs.slots.Slots.begin.Goals as goal

pub invariant_of-self : goal.invariant_of-self
invariant_of-self g c =
    let D = g.D.Disk in let m = g.met.D.Disk in let s = c.self.inside in let bytes = c.in_ok-planned.planned.items in
    let n : ℕ = IMAGE_PLACE + length c.args.image.now in
    let a = steps.at_step D m.counts_now m.present c.self.view_is c.self.invariant.0 c.requires.live c.requires.step in
    let next = subst (λ (k : SlotsState g.row.D.Denot). k.generation + 1 < 2 ^ 64) (sym c.self.view_is) c.requires.next in
    let fits = subst (λ (k : SlotsState g.row.D.Denot). k.other.start + IMAGE_PLACE + length c.args.image.now <
    k.other.stop) (sym c.self.view_is) c.requires.fits in
    let f = in_front bytes (head_text VERSION (s.generation + 1) c.args.base c.args.image.now) c.on_way.result.now n
    c.in_ok-planned.ensures (sym (head_long VERSION (s.generation + 1) c.args.base c.args.image.now)) in
    let there = f.there in (
      early_steps.begins a (slice_range bytes 0 n) (slice_range bytes 0 (n + 1)) (drop (n + 1) bytes) n (n - 1)
          (head_plan s.other s.generation c.args.base c.args.image.now (slice_range bytes 0 n)
          (slice_range bytes 0 (n + 1)) next fits f.front (f.all ∙ ap (λ t. t ++ 0 ∷ []) (sym f.front))),
      tt,
      record { there = omega (arith, there); image = omega arith; part = omega arith },
    )

pub returns-clause-text : goal.returns-clause-text
returns-clause-text g c =
    let head = head_text VERSION (c.self.inside.generation + 1) c.args.base c.args.image.now in
    let f = in_front c.in_ok-planned.planned.items head c.on_way.result.now (IMAGE_PLACE + length c.args.image.now)
    c.in_ok-planned.ensures (sym (head_long VERSION (c.self.inside.generation + 1) c.args.base c.args.image.now))
    in rw (← c.self.view_is) (f.front, omega arith, omega arith)

pub returns-clause-ready : goal.returns-clause-ready
returns-clause-ready g c =
    let head = head_text VERSION (c.self.inside.generation + 1) c.args.base c.args.image.now in
    let f = in_front c.in_ok-planned.planned.items head c.on_way.result.now (IMAGE_PLACE + length c.args.image.now)
    c.in_ok-planned.ensures (sym (head_long VERSION (c.self.inside.generation + 1) c.args.base c.args.image.now))
    in rw (← c.self.view_is) (λ way. f.back ∙ c.on_way.ensures way)
