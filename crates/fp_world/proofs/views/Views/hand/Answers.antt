use Rattle.std.proofs.Common.{rules, ◌≡◌, ◌<◌, length, map, get_or, sym, subst, arith}
use Rattle.std.proofs.lemmas.List.{length-map}
use Rattle.fp_publish.specs.Seats.{had_by}
use Rattle.fp_world.specs.Views.{ViewsState}
use Rattle.fp_world.proofs.Seating as seating
use Rattle.fp_world.proofs.views.Views.hand.Goals as goal

pub returns-clause-handed : goal.returns-clause-handed
returns-clause-handed c =
    let v = c.self.inside in let place = c.index_mut-place.result.now in
    let is : place ≡ get_or v.places.items c.args.seat place = c.index_mut-place.ensures.value in
    let asked : c.args.seat < length (map had_by v.places.items) =
    subst (λ (x : ViewsState). c.args.seat < length x.seats) (sym c.self.view_is) c.requires in
    let len = length-map v.places.items had_by in
    let lt : c.args.seat < length v.places.items = omega (arith, asked, len) in
    rw (← c.self.view_is) (seating.hands v.board (length v.readers.items) v.places.items c.args.seat place
    c.hand.new.seat lt is c.hand.result _ (search rules) (search rules))

pub returns-clause-turn : goal.returns-clause-turn
returns-clause-turn c =
    let v = c.self.inside in let place = c.index_mut-place.result.now in
    let is : place ≡ get_or v.places.items c.args.seat place = c.index_mut-place.ensures.value in
    let asked : c.args.seat < length (map had_by v.places.items) =
    subst (λ (x : ViewsState). c.args.seat < length x.seats) (sym c.self.view_is) c.requires in
    let len = length-map v.places.items had_by in
    let lt : c.args.seat < length v.places.items = omega (arith, asked, len) in
    rw (← c.self.view_is) (seating.asked v.board (length v.readers.items) v.places.items c.args.seat place
    c.hand.new.seat lt is c.hand.result (search rules))
