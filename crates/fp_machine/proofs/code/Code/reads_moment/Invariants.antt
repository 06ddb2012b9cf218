use Rattle.std.proofs.Common.{◌≡◌, drop}
use Rattle.fp_machine.specs.Moment.{any_reads}
use Rattle.fp_machine.specs.Reading.{env_of}
use Rattle.fp_machine.proofs.code.Code.reads_moment.Given as goal

-- the instructions that are left decide for all
abbrev pub invariant-loop-step : goal.invariant-loop-step
invariant-loop-step l = any_reads (env_of l.fn.self) (drop l.step-index l.step-items) ≡ any_reads (env_of l.fn.self) l.step-items
