use Rattle.fp_loop.specs.Courses.{RunsOn}
use Rattle.fp_loop.proofs.turning.Loop.run.Given as goal

abbrev pub invariant-loop : goal.invariant-loop
invariant-loop g l = RunsOn g.S.Service.answers g.S.Informed.informs l.fn.self l.self
