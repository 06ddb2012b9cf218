-- Code that gives what a rule means.
use Rattle.std.specs.Prelude.{◌≡◌, [], Some, true, false}
use Rattle.fp_operators.specs.Data.{Data, null}
use Rattle.fp_machine.specs.Frugal.{IsFrugal}
use Rattle.fp_machine.specs.Machine.{run}
use Rattle.fp_machine.specs.Meaning.{meaning}
use Rattle.fp_machine.specs.Memory.{needs_memory}
use Rattle.fp_machine.specs.Operators.{well_formed}
use Rattle.fp_machine.specs.Reading.{in_order, env_of, rule_of_code}
use Rattle.fp_machine.specs.declared.code.Code.{Code}

-- the code is of one rule, with arguments that its operators take, and gives what the rule means:
-- no operand is missing, no instruction outside of it is skipped to, and the stack has room. Where
-- the rule needs no memory, it asks for none.
pub record IsSound (code : Code) : Type 0 where
  pub formed : well_formed (rule_of_code code) ≡ true
  pub gives : (root : Data)
      → run (env_of code) root (in_order code) 0 null []
      ≡ Some (meaning root (rule_of_code code))
  pub frugal : needs_memory (rule_of_code code) ≡ false → IsFrugal code
