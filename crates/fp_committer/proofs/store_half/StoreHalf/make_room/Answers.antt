use Rattle.std.proofs.Common.{ap, subst}
use Rattle.fp_group_commit.specs.Store.{StoreState}
use Rattle.fp_committer.specs.StoreHalf.{IsOut}
use Rattle.fp_committer.specs.Way.{batch_drawn}
use Rattle.fp_committer.specs.declared.held.Held.{Held}
use Rattle.fp_committer.proofs.Keeps.{Half}
use Rattle.fp_committer.proofs.Seals as seals
use Rattle.fp_committer.proofs.Ways as ways
use Rattle.fp_committer.proofs.store_half.StoreHalf.make_room.Goals as goal

pub make_room-requires-clause-keeps : goal.make_room-requires-clause-keeps
make_room-requires-clause-keeps g c =
    let s = c.self.inside.store in let half = c.self.inside.half in
    let o = subst (λ (x : Held). IsOut x s half.settled) c.in-Drawn.is c.self.invariant.out in seals.rests g.D.Disk c.self.invariant o.0

pub invariant_of-self : goal.invariant_of-self
invariant_of-self g c =
    let D = g.D.Disk in let s = c.self.inside.store in let n = c.make_room.new.store in let e = c.make_room.ensures in
    seals.stays_half D c.self.invariant n
    (seals.either_way c.make_room.result _ _ _ e.proceeds e.halts (λ p. p.stays)
    (seals.stayed D s n c.in-Drawn.draw))

pub returns-clause-kept : goal.returns-clause-kept
returns-clause-kept g c =
    let D = g.D.Disk in let s = c.self.inside.store in let n = c.make_room.new.store in let e = c.make_room.ensures in
    rw (← c.self.view_is) (seals.stays_calls D c.self.invariant n
    (seals.either_way c.make_room.result _ _ _ e.proceeds e.halts (λ p. p.stays)
    (seals.stayed D s n c.in-Drawn.draw)) _ _)

-- where there is room the store stays
pub returns-clause-none : goal.returns-clause-none
returns-clause-none g c =
    let s = c.self.inside.store in let half = c.self.inside.half in let draw = c.in-Drawn.draw in
    let o = subst (λ (x : Held). IsOut x s half.settled) c.in-Drawn.is c.self.invariant.out in
    rw (← c.self.view_is, c.in-Drawn.is)
    (λ can. ap (λ (n : StoreState g.row.D.Denot). Half n batch_drawn draw.changes half)
    (c.make_room.ensures.none (ways.has_room draw s half.settled o.2 can)))

pub returns-clause-cause : goal.returns-clause-cause
returns-clause-cause g c =
    let D = g.D.Disk in let s = c.self.inside.store in let half = c.self.inside.half in let n = c.make_room.new.store in
    let o = subst (λ (x : Held). IsOut x s half.settled) c.in-Drawn.is c.self.invariant.out in
    rw (← c.self.view_is, c.in-Drawn.is)
    (seals.no_room_made D s n half c.in-Drawn.draw o batch_drawn c.in-Drawn.draw.changes c.make_room.result
    c.make_room.ensures.halts)

pub returns-clause-called : goal.returns-clause-called
returns-clause-called g c =
    rw (← c.self.view_is) (seals.broke_off g.D.Disk c.self.inside.store c.make_room.new.store c.in-Drawn.draw
    c.make_room.result c.make_room.ensures.halts)
