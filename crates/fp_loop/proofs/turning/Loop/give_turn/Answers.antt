use Rattle.std.proofs.Common.{◌∙◌, ap, is_some, refl, subst, sym}
use Rattle.fp_loop.specs.Members.{CanDoNothing}
use Rattle.fp_loop.specs.Talks.{Serves}
use Rattle.fp_loop.proofs.Courses.{runs_served}
use Rattle.fp_loop.proofs.Slots.{written}
use Rattle.fp_loop.proofs.turning.Loop.give_turn.Goals as goal

pub returns-clause-on : goal.returns-clause-on
returns-clause-on g c =
    runs_served g.S.Service.answers g.S.Informed.informs _ _
    (subst (λ s. Serves g.S.Service.answers c.args.self.now.service.service s) (sym c.tell_refusal.ensures)
    c.turn-turn.ensures.serves)
    refl

pub returns-clause-waits : goal.returns-clause-waits
returns-clause-waits g c goes_on waits =
    let shown = c.args.self.now.shown in
    written (λ m. CanDoNothing m.kind shown) c.args.self.now.members.slots c.args.key _
    (c.take_refusal-refusal.ensures shown
    (c.turn-turn.ensures.waits (c.is_some-ends.ensures ∙ ap is_some goes_on) waits))
