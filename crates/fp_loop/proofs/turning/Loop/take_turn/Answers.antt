use Rattle.std.proofs.Common.{refl}
use Rattle.fp_loop.proofs.Courses.{runs_kept, runs_then}
use Rattle.fp_loop.proofs.turning.Loop.take_turn.Goals as goal

pub returns-clause-on : goal.returns-clause-on
returns-clause-on g c =
    runs_then g.S.Service.answers g.S.Informed.informs _ _ _ c.give_turn-turn.ensures.on
    (runs_kept g.S.Service.answers g.S.Informed.informs _ _ record { service = refl; shown = refl })
