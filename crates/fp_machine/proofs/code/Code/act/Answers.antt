use Rattle.std.proofs.Common.{refl, ap, subst, sym, true, ◌≡◌, OnErr}
use Rattle.std.specs.Prelude.{[], ◌∷◌}
use Rattle.fp_operators.specs.View.{view}
use Rattle.fp_machine.specs.Found.{found_view, stack_view}
use Rattle.fp_machine.specs.Frugal.{asks}
use Rattle.fp_machine.specs.Machine.{few, list_of, look}
use Rattle.fp_machine.specs.Reading.{env_of}
use Rattle.fp_machine.proofs.Frugal.{any-err}
use Rattle.fp_machine.proofs.Machines.{of-step, at-hand}
use Rattle.fp_machine.proofs.code.Code.act.Goals as goal

pub returns-in-Three-clause-does : goal.returns-in-Three-clause-does
returns-in-Three-clause-does c =
    let env = env_of c.args.self.now in
    let root = view c.args.root.now in
    let v = found_view c.args.at_hand.now in
    let w = found_view c.do_three.new.at_hand in
    let s = stack_view c.args.kept.now in
    let d = few c.in-Three.operator (look env root v c.in-Three.a ∷ look env root v c.in-Three.b ∷ v ∷ []) in
    of-step env root c.in-Three.is c.do_three.result v w s s
    (at-hand c.do_three.result d w s c.do_three.ensures.at_hand c.do_three.ensures.skipped)

pub returns-in-Three-clause-room : goal.returns-in-Three-clause-room
returns-in-Three-clause-room c = refl

pub returns-in-Three-clause-memory : goal.returns-in-Three-clause-memory
returns-in-Three-clause-memory c =
    subst (λ b. OnErr c.do_three.result (asks b ≡ true)) (sym c.in-Three.is) c.do_three.ensures.memory

pub returns-in-Third-clause-memory : goal.returns-in-Third-clause-memory
returns-in-Third-clause-memory c =
    subst (λ b. OnErr c.third.result (asks b ≡ true)) (sym c.in-Third.is) c.third.ensures.memory

pub returns-in-Wrap-clause-does : goal.returns-in-Wrap-clause-does
returns-in-Wrap-clause-does c =
    let v = found_view c.args.at_hand.now in
    let w = found_view c.wrap.new.at_hand in
    let s = stack_view c.args.kept.now in
    of-step (env_of c.args.self.now) (view c.args.root.now) c.in-Wrap.is c.wrap.result v w s s
    (at-hand c.wrap.result (list_of (v ∷ [])) w s c.wrap.ensures.at_hand c.wrap.ensures.skipped)

pub returns-in-Wrap-clause-room : goal.returns-in-Wrap-clause-room
returns-in-Wrap-clause-room c = refl

pub returns-in-Wrap-clause-memory : goal.returns-in-Wrap-clause-memory
returns-in-Wrap-clause-memory c = any-err c.wrap.result (ap asks c.in-Wrap.is)

pub returns-in-Third-clause-does : goal.returns-in-Third-clause-does
returns-in-Third-clause-does c =
    of-step (env_of c.args.self.now) (view c.args.root.now) c.in-Third.is c.third.result (found_view c.args.at_hand.now)
    (found_view c.third.new.at_hand) (stack_view c.args.kept.now) (stack_view c.third.new.kept) c.third.ensures.does

pub returns-in-Third-clause-room : goal.returns-in-Third-clause-room
returns-in-Third-clause-room c = c.third.ensures.room

pub returns-in-Join-clause-does : goal.returns-in-Join-clause-does
returns-in-Join-clause-does c =
    of-step (env_of c.args.self.now) (view c.args.root.now) c.in-Join.is c.join.result (found_view c.args.at_hand.now)
    (found_view c.join.new.at_hand) (stack_view c.args.kept.now) (stack_view c.join.new.kept) c.join.ensures.does

pub returns-in-Join-clause-room : goal.returns-in-Join-clause-room
returns-in-Join-clause-room c = c.join.ensures.room

pub returns-in-Join-clause-memory : goal.returns-in-Join-clause-memory
returns-in-Join-clause-memory c = any-err c.join.result (ap asks c.in-Join.is)

pub returns-in-Collect-clause-does : goal.returns-in-Collect-clause-does
returns-in-Collect-clause-does c =
    of-step (env_of c.args.self.now) (view c.args.root.now) c.in-Collect.is c.collect.result (found_view c.args.at_hand.now)
    (found_view c.collect.new.at_hand) (stack_view c.args.kept.now) (stack_view c.collect.new.kept) c.collect.ensures.does

pub returns-in-Collect-clause-room : goal.returns-in-Collect-clause-room
returns-in-Collect-clause-room c = c.collect.ensures.room

pub returns-in-Collect-clause-memory : goal.returns-in-Collect-clause-memory
returns-in-Collect-clause-memory c = any-err c.collect.result (ap asks c.in-Collect.is)
