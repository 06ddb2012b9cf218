use Rattle.std.proofs.Common.{◌≡◌, ◌≢◌, ℕ, refl, sym, ap, subst, ◌∙◌, arith}
use Rattle.std.specs.Prelude.{Option, Some, None}
use Rattle.fp_group_commit.specs.Tokens.{FrontState, front_revision}
use Rattle.fp_desk.specs.Desk.{DeskState, settled_revision}
use Rattle.fp_world.specs.Views.{ViewsState}
use Rattle.fp_world.specs.World.{machine}
use Rattle.fp_world.specs.declared.event.Answer.TheVariants as answer
use Rattle.fp_world.specs.declared.event.Event.TheVariants as event
use Rattle.fp_world.proofs.Turns as turns
use Rattle.fp_world.proofs.world.World.publish.Goals as goal

pub returns-in_default : goal.returns-in_default
returns-in_default g c =
    let m = c.self.inside.committer in let v = c.self.inside.views in
    let turn : front_revision v.board ≢ settled_revision m.desk =
    subst (λ (d : DeskState). front_revision v.board ≢ settled_revision d) c.desk.ensures
    c.in_default.ensures.turn in
    rw (← c.self.view_is) (turns.told_step g.D.Disk g.met.D.Disk.only_now _ _ event.Publish answer.Memory m.told refl
    (omega arith) refl refl (λ x. refl) (λ n. refl)
    (turn, ap (λ (x : ViewsState). machine (turns.World m x)) c.in_default.ensures.unchanged) c.rest.ensures.exit)

pub returns-in_default-published : goal.returns-in_default-published
returns-in_default-published g c =
    let m = c.self.inside.committer in let v = c.self.inside.views in let n = c.publish.new.self in
    let found : turns.ShownBy c.desk.result.now v n None =
    subst (λ (o : Option FrontState). turns.ShownBy c.desk.result.now v n o) c.in_default-published.is
    c.in-Ok.ensures.shown in
    let s = subst (λ (d : DeskState). turns.ShownBy d v n None) c.desk.ensures found in
    rw (← c.self.view_is) (turns.told_step g.D.Disk g.met.D.Disk.only_now _ _ event.Publish answer.NotNow m.told refl
    (omega arith) refl refl (λ x. refl) (λ n. refl)
    (s.0, ap (λ (x : ViewsState). machine (turns.World m x)) s.1) c.rest.ensures.exit)

pub returns : goal.returns
returns g c =
    let m = c.self.inside.committer in let v = c.self.inside.views in let n = c.publish.new.self in let shown = c.in-Some.shown in
    let found : turns.ShownBy c.desk.result.now v n (Some shown) =
    subst (λ (o : Option FrontState). turns.ShownBy c.desk.result.now v n o) c.in-Some.is c.in-Ok.ensures.shown in
    let s = subst (λ (d : DeskState). turns.ShownBy d v n (Some shown)) c.desk.ensures found in
    let r = c.revision.result in let is : r ≡ settled_revision m.desk = c.revision.ensures ∙
    ap (λ (f : FrontState). front_revision f) s.1 in
    rw (← c.self.view_is) (turns.told_step g.D.Disk g.met.D.Disk.only_now _ _ event.Publish (answer.Published r)
    m.told refl (omega arith) refl refl (λ x. refl) (λ n. refl) (
      s.0,
      is,
      ap (λ (x : ViewsState). machine (turns.World m x)) s.2 ∙
          ap (λ (n : ℕ). record (machine (turns.World m v)) { published = n }) (sym is),
    ) c.rest.ensures.exit)
