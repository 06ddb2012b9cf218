use Rattle.std.proofs.Common.{◌≡◌, max, refl, ap, ◌∙◌, arith}
use Rattle.fp_group_commit.specs.Tokens.{FrontState, front_revision}
use Rattle.fp_world.specs.Views.{ViewsState}
use Rattle.fp_world.specs.World.{machine}
use Rattle.fp_world.specs.declared.event.Answer.TheVariants as answer
use Rattle.fp_world.specs.declared.event.Event.TheVariants as event
use Rattle.fp_world.proofs.Turns as turns
use Rattle.fp_world.specs.Machine.{reply_to}
use Rattle.fp_group_commit.specs.Tokens.{front_set}
use Rattle.fp_world.proofs.world.World.evaluate.Goals as goal

pub returns-then-reader-readers : goal.returns-then-reader-readers
returns-then-reader-readers g c =
    let m = c.self.inside.committer in let few = c.if-reader-readers.true in let count = c.readers.ensures in
    rw (← c.self.view_is) (turns.told_step g.D.Disk g.met.D.Disk.only_now _ _
    (event.Evaluate c.args.reader c.args.request.now c.args.now.now) answer.NotNow m.told refl (omega arith) refl
    refl (λ x. refl) (λ n. refl) (omega (arith, few, count), refl) c.rest.ensures.exit)

pub returns-in_default : goal.returns-in_default
returns-in_default g c =
    let m = c.self.inside.committer in let few = c.if-reader-readers.false in let count = c.readers.ensures in
    rw (← c.self.view_is) (turns.told_step g.D.Disk g.met.D.Disk.only_now _ _
    (event.Evaluate c.args.reader c.args.request.now c.args.now.now) answer.Memory m.told refl (omega arith) refl
    refl (λ x. refl) (λ n. refl)
    (omega (arith, few, count), ap (λ (x : ViewsState). machine (turns.World m x)) c.evaluate.ensures.same) c.rest.ensures.exit)

pub returns : goal.returns
returns g c =
    let m = c.self.inside.committer in let v = c.self.inside.views in let few = c.if-reader-readers.false in
    let count = c.readers.ensures in
    let same_views = c.evaluate.ensures.same in let r = c.revision-revision.result in
    let is : r ≡ front_revision v.board = c.revision-revision.ensures ∙ ap (λ (x : ViewsState). front_revision x.board) same_views in
    rw (← c.self.view_is) (turns.told_step g.D.Disk g.met.D.Disk.only_now _ _
    (event.Evaluate c.args.reader c.args.request.now c.args.now.now) (answer.Reply r c.in-Ok.reply)
    (max m.told r) c.tell.ensures.told (omega arith) refl refl (λ x. refl) (λ n. refl) (
      omega (arith, few, count),
      is,
      c.in-Ok.ensures.over ∙
          ap (λ (f : FrontState). reply_to (front_set f) c.args.request.now c.args.now.now)
          (turns.front_is (turns.World m v) c.self.invariant),
      turns.machine_told m c.tell.new.self v c.evaluate.new.self r v.seats c.tell.ensures.told is same_views,
    )
    c.tell.ensures.exit)
