use Rattle.fp_loop.proofs.Courses.{runs_kept, runs_then}
use Rattle.fp_loop.proofs.turning.Loop.turn.Goals as goal

pub returns : goal.returns
returns g c =
    runs_then g.S.Service.answers g.S.Informed.informs _ _ _
    (runs_kept g.S.Service.answers g.S.Informed.informs _ _
    record { service = c.wait.ensures.service; shown = c.wait.ensures.shown })
    (runs_then g.S.Service.answers g.S.Informed.informs _ _ _ c.take_turns.ensures
    (runs_then g.S.Service.answers g.S.Informed.informs _ _ _ c.look_in.ensures
    (runs_then g.S.Service.answers g.S.Informed.informs _ _ _ c.sweep.ensures
    (runs_kept g.S.Service.answers g.S.Informed.informs _ _ c.end_if_over.ensures))))
