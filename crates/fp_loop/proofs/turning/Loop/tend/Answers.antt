use Rattle.std.proofs.Common.{refl}
use Rattle.fp_loop.proofs.Courses.{runs_kept, runs_then}
use Rattle.fp_loop.proofs.turning.Loop.tend.Goals as goal

pub returns : goal.returns
returns g c =
    runs_then g.S.Service.answers g.S.Informed.informs _ _ _ c.look_after.ensures
    (runs_kept g.S.Service.answers g.S.Informed.informs _ _ record { service = refl; shown = refl })
