use Rattle.std.proofs.Common.{sym}
use Rattle.std.proofs.lemmas.Result.{IfErr-weaker, IfOk-weaker}
use Rattle.fp_edit.specs.Log.{after}
use Rattle.fp_desk.specs.Desk.{log}
use Rattle.fp_world.proofs.Opening as openings
use Rattle.fp_world.proofs.world.recover.Goals as goal

pub returns-clause-opens : goal.returns-clause-opens
returns-clause-opens g c = let e = c.open.ensures in
    openings.opens g.D.Disk c.args.disk c.open.result e.same e.any_moment e.honest e.called e.no_failure e.cause
    e.memory

pub returns-clause-kept : goal.returns-clause-kept
returns-clause-kept g c = λ h desk told k.
    IfOk-weaker c.open.result _ _ (λ r only. (k.0, k.1, k.2, sym (only (after desk.store.start (log desk) k.0) k.3)))
    (c.open.ensures.only h)

pub returns-clause-refused : goal.returns-clause-refused
returns-clause-refused g c = λ h desk told k.
    IfErr-weaker c.open.result _ _
    (λ e none. openings.wanting (g.D.Disk.bytes c.args.disk) (after desk.store.start (log desk) k.0) e.0 k.3
    none) (c.open.ensures.refused h)
