use Rattle.std.proofs.Common.{◌≡◌, ◌≤◌, Some, length, take}
use Rattle.std.specs.Prelude.{[]}
use Rattle.fp_operators.specs.View.{view}
use Rattle.fp_machine.specs.Found.{found_view, stack_view}
use Rattle.fp_machine.specs.Kept.{kept_room}
use Rattle.fp_machine.specs.Machine.{run}
use Rattle.fp_machine.specs.Meaning.{meaning}
use Rattle.fp_machine.specs.Reading.{env_of, rule_of_code}
use Rattle.fp_machine.specs.Stack.{onto}
use Rattle.fp_machine.proofs.code.Code.do_all.Given as goal

-- what is left gives what all gives
abbrev pub invariant-steps : goal.invariant-steps
invariant-steps l = record {
  within : l.left ≤ length l.self.steps.items;
  room : l.self.room ≤ kept_room l.kept;
  gives : run (env_of l.self) (view l.root) (onto (take l.left l.self.steps.items) []) 0 (found_view l.at_hand)
      (stack_view l.kept) ≡ Some (meaning (view l.root) (rule_of_code l.self));
}

abbrev pub decreases-steps : goal.decreases-steps
decreases-steps l = l.left
