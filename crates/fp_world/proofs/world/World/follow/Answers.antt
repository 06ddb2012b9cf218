use Rattle.std.proofs.Common.{rules, ◌≡◌, ◌<◌, ◌+◌, [], ◌∷◌, ◌++◌, length, take, sym, ap, ◌∙◌, arith}
use Rattle.std.proofs.lemmas.List.{take_more}
use Rattle.fp_world.specs.declared.event.Event.{Event}
use Rattle.fp_world.proofs.Courses as courses
use Rattle.fp_world.proofs.world.World.follow.Goals as goal

pub loop-event-preserved : goal.loop-event-preserved
loop-event-preserved g c =
    let i = c.loop-event.invariant in let w = c.turn.ensures in
    let count = i.count in let capacity = i.room in let one = c.push_reserved.ensures.len in let same = c.push_reserved.ensures.capacity in
    let lt : c.loop-event.event-index < length c.args.events.now = search rules in
    let item : Event = c.event-item.result in
    let front = take c.loop-event.event-index c.args.events.now in
    let taken : take (c.loop-event.event-index + 1) c.args.events.now ≡ front ++ item ∷ [] =
    take_more c.args.events.now c.loop-event.event-index item lt ∙
    ap (λ (e : Event). front ++ e ∷ []) (sym c.event-item.is) in
    rw (taken, c.push_reserved.ensures.items) (record {
      course = courses.course_more g.D.Disk c.args.self.now c.loop-event.self c.turn.new.self front
          c.loop-event.answers.items item c.turn.result i.course
          w;
      count = omega (arith, count, one);
      room = omega (arith, capacity, same);
    })
