use Rattle.std.proofs.Common.{◌≡◌, ◌<◌, ◌-◌, ◌+◌, Some, take, length, ap, ◌∙◌, arith}
use Rattle.std.specs.Prelude.{[]}
use Rattle.fp_operators.specs.View.{view}
use Rattle.fp_machine.specs.Found.{found_view, stack_view}
use Rattle.fp_machine.specs.Machine.{run}
use Rattle.fp_machine.specs.Meaning.{meaning}
use Rattle.fp_machine.specs.Memory.{needs_memory}
use Rattle.fp_machine.specs.Reading.{env_of, rule_of_code}
use Rattle.fp_machine.specs.Stack.{onto}
use Rattle.fp_machine.proofs.Frugal.{asked, any-err}
use Rattle.fp_machine.proofs.Machines.{turn-within, turn-left}
use Rattle.fp_machine.proofs.code.Code.do_all.Goals as goal

pub overflow_sub-left-in-steps : goal.overflow_sub-left-in-steps
overflow_sub-left-in-steps c =
    let code = c.args.self.now in
    let root = view c.args.root.now in
    let xs = code.steps.items in
    let k = c.steps.left - 1 in
    let v = found_view c.steps.at_hand in
    let s = stack_view c.steps.kept in
    let m = meaning root (rule_of_code code) in
    let here : k + 1 ≡ c.steps.left = omega (arith, c.steps-test.true) in
    let within : k < length xs = omega (arith, here, c.steps.invariant.within) in
    let h : run (env_of code) root (onto (take (k + 1) xs) []) 0 v s ≡ Some m =
    ap (λ n. run (env_of code) root (onto (take n xs) []) 0 v s) here ∙ c.steps.invariant.gives in
    turn-within (env_of code) root xs k c.index-step.result.now v s m within c.index-step.ensures
    c.in_ok-skipped.skipped (found_view c.act.new.at_hand) (stack_view c.act.new.kept)
    c.in_ok-skipped.ensures.does h

pub steps-preserved : goal.steps-preserved
steps-preserved c =
    let code = c.args.self.now in
    let root = view c.args.root.now in
    let xs = code.steps.items in
    let k = c.steps.left - 1 in
    let v = found_view c.steps.at_hand in
    let s = stack_view c.steps.kept in
    let m = meaning root (rule_of_code code) in
    let here : k + 1 ≡ c.steps.left = omega (arith, c.steps-test.true) in
    let within : k < length xs = omega (arith, here, c.steps.invariant.within) in
    let h : run (env_of code) root (onto (take (k + 1) xs) []) 0 v s ≡ Some m =
    ap (λ n. run (env_of code) root (onto (take n xs) []) 0 v s) here ∙ c.steps.invariant.gives in
    record {
      within = omega (arith, within);
      room = grind (arith, c.steps.invariant.room, c.in_ok-skipped.ensures.room);
      gives = turn-left (env_of code) root xs k c.index-step.result.now v s m within c.index-step.ensures
          c.in_ok-skipped.skipped (found_view c.act.new.at_hand) (stack_view c.act.new.kept)
          c.in_ok-skipped.ensures.does h;
    }

pub returns-in_err-skipped-clause-memory : goal.returns-in_err-skipped-clause-memory
returns-in_err-skipped-clause-memory c =
    let code = c.args.self.now in
    let k = c.steps.left - 1 in
    let within : k < length code.steps.items = omega (arith, c.steps.invariant.within, c.steps-test.true) in
    any-err c.from_residual-in_err-skipped.result
    (asked (needs_memory (rule_of_code code)) c.requires.sound.frugal k c.index-step.result.now within
    c.index-step.ensures c.in_err-skipped.ensures.memory)
