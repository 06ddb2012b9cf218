use Rattle.std.proofs.Common.{refl}
use Rattle.fp_loop.proofs.Courses.{runs_kept, runs_then}
use Rattle.fp_loop.proofs.turning.Loop.take_turns.Goals as goal

pub loop-at-preserved : goal.loop-at-preserved
loop-at-preserved g c =
    runs_then g.S.Service.answers g.S.Informed.informs _ _ _ c.loop-at.invariant
    (runs_then g.S.Service.answers g.S.Informed.informs _ _ _ c.take_turn-goes.ensures.on
    (runs_kept g.S.Service.answers g.S.Informed.informs _ _ record { service = refl; shown = refl }))
