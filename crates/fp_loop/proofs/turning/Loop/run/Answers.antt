use Rattle.fp_loop.proofs.Courses.{runs_then}
use Rattle.fp_loop.proofs.turning.Loop.run.Goals as goal

pub returns-then-not-turn : goal.returns-then-not-turn
returns-then-not-turn g c =
    runs_then g.S.Service.answers g.S.Informed.informs _ _ _ c.loop.invariant c.turn.ensures

pub loop-preserved : goal.loop-preserved
loop-preserved g c =
    runs_then g.S.Service.answers g.S.Informed.informs _ _ _ c.loop.invariant c.turn.ensures
