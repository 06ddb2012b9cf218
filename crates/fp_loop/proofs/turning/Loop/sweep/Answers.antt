use Rattle.std.proofs.Common.{refl}
use Rattle.fp_loop.proofs.Courses.{runs_kept, runs_then}
use Rattle.fp_loop.proofs.turning.Loop.sweep.Goals as goal

pub loop-key-init : goal.loop-key-init
loop-key-init g c = runs_kept g.S.Service.answers g.S.Informed.informs _ _ record { service = refl; shown = refl }

pub loop-key-preserved : goal.loop-key-preserved
loop-key-preserved g c =
    runs_then g.S.Service.answers g.S.Informed.informs _ _ _ c.loop-key.invariant c.tend.ensures
