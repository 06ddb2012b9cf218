use Rattle.fp_hall.proofs.Halls.{shown_reaches}
use Rattle.fp_hall.proofs.hall.Hall.shown.Goals as goal

pub returns-clause-reached : goal.returns-clause-reached
returns-clause-reached g c = shown_reaches c.args.told.now _ _ c.shown.result c.shown.ensures
