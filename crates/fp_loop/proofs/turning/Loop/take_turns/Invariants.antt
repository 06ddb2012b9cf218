use Rattle.fp_loop.specs.Courses.{RunsOn}
use Rattle.fp_loop.proofs.turning.Loop.take_turns.Given as goal

abbrev pub invariant-loop-at : goal.invariant-loop-at
invariant-loop-at g l = RunsOn g.S.Service.answers g.S.Informed.informs l.fn.self l.self
