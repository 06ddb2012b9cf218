use Rattle.fp_loop.specs.Courses.{RunsOn}
use Rattle.fp_loop.proofs.turning.Loop.sweep.Given as goal

abbrev pub invariant-loop-key : goal.invariant-loop-key
invariant-loop-key g l = RunsOn g.S.Service.answers g.S.Informed.informs l.fn.self l.self
