use Rattle.fp_loop.specs.Courses.{KeepsOn}
use Rattle.fp_loop.proofs.turning.Loop.end_if_over.Given as goal

abbrev pub invariant-loop-key : goal.invariant-loop-key
invariant-loop-key g l = KeepsOn l.fn.self l.self
