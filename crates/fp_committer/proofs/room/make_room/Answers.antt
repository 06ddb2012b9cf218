use Rattle.std.proofs.Common.{◌≡◌, true, false, refl, sym, inl, inr, ◌∙◌}
use Rattle.std.proofs.lemmas.Result.{err_from_is_err_and}
use Rattle.fp_group_commit.specs.Changes.{HasRoom}
use Rattle.fp_group_commit.specs.Store.{MayCompact, StoreState}
use Rattle.fp_committer.proofs.Rooms.{halts_then, no_room, none_then, proceeds_then, used_up}
use Rattle.fp_committer.proofs.room.make_room.Goals as goal

pub returns-then-not-may_compact-clause-halts : goal.returns-then-not-may_compact-clause-halts
returns-then-not-may_compact-clause-halts g c =
    let s = c.loop-store.store in let inv = c.loop-store.invariant.0 in let idle = inv.stays.phase ∙ c.requires.rest.0 in
    let never : MayCompact s → ⊥ =
    λ may. (let both : false ≡ true = sym c.if-not-may_compact.true ∙ c.may_compact.ensures.1 may in absurd cc) in
    let up = used_up s idle never in
    let none = no_room s c.args.draw.now c.has_room.result c.has_room.ensures.room c.loop-store-test.true up.0
    c.requires.some c.requires.few in
    inr (refl, inv, up.1, λ h o left. c.has_room.ensures.full (idle, inv.well) up.0 none h o left)

pub loop-store-preserved : goal.loop-store-preserved
loop-store-preserved g c =
    let a = c.args.store.now in let b = c.loop-store.store in let n = c.take_step.new.store in let inv = c.loop-store.invariant in (
      proceeds_then g.D.Disk a b n inv.0 c.in_ok-take_step.ensures.proceeds,
      none_then (λ (s : StoreState g.row.D.Denot). HasRoom s c.args.draw.now) c.has_room.result a b n inv.1
          c.has_room.ensures.room c.loop-store-test.true,
    )

pub returns-in_err-take_step-clause-none : goal.returns-in_err-take_step-clause-none
returns-in_err-take_step-clause-none g c =
    let a = c.args.store.now in let b = c.loop-store.store in let n = c.take_step.new.store in
    let not = c.loop-store-test.true in
    none_then (λ (s : StoreState g.row.D.Denot). HasRoom s c.args.draw.now) c.has_room.result a b n
    c.loop-store.invariant.1 c.has_room.ensures.room not

pub returns-in_err-take_step-clause-halts : goal.returns-in_err-take_step-clause-halts
returns-in_err-take_step-clause-halts g c =
    let p = err_from_is_err_and c.from_residual.result c.from_residual.ensures.1 in
    rw (p.1, p.2) (inl (halts_then g.D.Disk c.args.store.now c.loop-store.store c.take_step.new.store
    c.in_err-take_step.field-0.0 c.loop-store.invariant.0 c.in_err-take_step.ensures.halts))
