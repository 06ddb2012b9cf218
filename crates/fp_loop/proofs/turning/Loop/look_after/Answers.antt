use Rattle.std.proofs.Common.{refl}
use Rattle.fp_loop.proofs.Courses.{runs_served}
use Rattle.fp_loop.proofs.turning.Loop.look_after.Goals as goal

pub returns : goal.returns
returns g c = runs_served g.S.Service.answers g.S.Informed.informs _ _ c.look_after.ensures refl
