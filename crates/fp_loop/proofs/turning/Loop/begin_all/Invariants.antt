use Rattle.fp_loop.specs.Courses.{KeepsOn}
use Rattle.fp_loop.proofs.turning.Loop.begin_all.Given as goal

abbrev pub invariant-loop-stream : goal.invariant-loop-stream
invariant-loop-stream g l = KeepsOn l.fn.self l.self
