use Rattle.std.proofs.Common.{ℕ, max, refl, ap, subst, ◌∙◌, arith}
use Rattle.std.specs.Prelude.{Option}
use Rattle.fp_group_commit.specs.Tokens.{FrontState, front_revision}
use Rattle.fp_world.specs.Views.{ViewsState}
use Rattle.fp_world.specs.World.{machine}
use Rattle.fp_world.specs.declared.event.Answer.TheVariants as answer
use Rattle.fp_world.specs.declared.event.Event.TheVariants as event
use Rattle.fp_world.proofs.Turns as turns
use Rattle.fp_world.proofs.world.World.hand.Goals as goal

pub returns-then-seat-seats : goal.returns-then-seat-seats
returns-then-seat-seats g c =
    let m = c.self.inside.committer in let few = c.if-seat-seats.true in let count = c.seats.ensures in
    rw (← c.self.view_is) (turns.told_step g.D.Disk g.met.D.Disk.only_now _ _ (event.Hand c.args.seat) answer.NotNow
    m.told refl (omega arith) refl refl (λ x. refl) (λ n. refl) (omega (arith, few, count), refl)
    c.rest.ensures.exit)

pub returns-in-Err : goal.returns-in-Err
returns-in-Err g c =
    let m = c.self.inside.committer in
    rw (← c.self.view_is) (turns.told_step g.D.Disk g.met.D.Disk.only_now _ _ (event.Hand c.args.seat) answer.Memory
    m.told refl (omega arith) refl refl (λ x. refl) (λ n. refl)
    (c.in-Err.ensures.turn, ap (λ (x : ViewsState). machine (turns.World m x)) c.in-Err.ensures.unchanged) c.rest.ensures.exit)

pub returns-in-Ok-None : goal.returns-in-Ok-None
returns-in-Ok-None g c =
    let m = c.self.inside.committer in let v = c.self.inside.views in
    let s = subst (λ (o : Option FrontState). turns.HandedBy c.args.seat v c.hand.new.self o) c.in-Ok-None.field-0-is
    c.in-Ok-None.ensures.handed in
    rw (← c.self.view_is) (turns.told_step g.D.Disk g.met.D.Disk.only_now _ _ (event.Hand c.args.seat) answer.Nothing
    m.told refl (omega arith) refl refl (λ x. refl) (λ n. refl)
    (s.0, ap (λ (x : ViewsState). machine (turns.World m x)) s.1) c.rest.ensures.exit)

pub returns-in-Ok-Some : goal.returns-in-Ok-Some
returns-in-Ok-Some g c =
    let m = c.self.inside.committer in let v = c.self.inside.views in let h = c.in-Ok-Some.handed in
    let s = subst (λ (o : Option FrontState). turns.HandedBy c.args.seat v c.hand.new.self o) c.in-Ok-Some.field-0-is
    c.in-Ok-Some.ensures.handed in
    let revision = c.revision.ensures in let same = revision ∙ ap (λ (f : FrontState). front_revision f) s.1 in
    rw (← c.self.view_is) (turns.told_step g.D.Disk g.met.D.Disk.only_now _ _ (event.Hand c.args.seat)
    (answer.Handed h) (max m.told c.revision.result) c.tell.ensures.told (omega arith)
    (ap (λ (n : ℕ). max m.told n) revision) refl (λ x. refl) (λ n. refl) (
      s.0,
      s.1 ∙ turns.front_is (turns.World m v) c.self.invariant,
      turns.machine_told m c.tell.new.self v c.hand.new.self c.revision.result _ c.tell.ensures.told same s.2,
    )
    c.tell.ensures.exit)
