use Rattle.std.proofs.Common.{sym, subst}
use Rattle.std.proofs.lemmas.Result.{IfErr-weaker, IfOk-weaker}
use Rattle.fp_edit.specs.Log.{after}
use Rattle.fp_desk.specs.Desk.{log}
use Rattle.fp_committer.specs.Commits.{opened_set}
use Rattle.fp_world.specs.World.{Opens, desk_of, machine}
use Rattle.fp_world.proofs.Opening as openings
use Rattle.fp_world.proofs.world.World.reopen.Goals as goal

pub returns-clause-opens : goal.returns-clause-opens
returns-clause-opens g c =
    let e = c.open.ensures in
    subst (λ (d : g.row.D.Denot). Opens g.D.Disk d c.open.result) c.into_disk.ensures.disk
    (openings.opens g.D.Disk c.into_disk.result c.open.result e.same e.any_moment e.honest e.called e.no_failure
    e.cause e.memory)

pub returns-clause-set : goal.returns-clause-set
returns-clause-set g c = λ h well.
    let D = g.D.Disk in let back = subst (λ (d : g.row.D.Denot). D.honest d) (sym c.into_disk.ensures.disk) h in
    let stands = c.into_disk.ensures.stands back well in
    IfOk-weaker c.open.result _ _ (λ r only. sym (only (opened_set (machine c.args.self).commits) stands)) (c.open.ensures.only back)

-- what is read of the disk is an outcome, and so keeps what was told
pub returns-clause-kept : goal.returns-clause-kept
returns-clause-kept g c = λ h.
    let D = g.D.Disk in let back = subst (λ (d : g.row.D.Denot). D.honest d) (sym c.into_disk.ensures.disk) h in
    let d = c.into_disk.result in let k = c.into_disk.ensures.outcomes back (D.bytes d) (g.met.D.Disk.present d back) in
    let desk = desk_of c.args.self in
    IfOk-weaker c.open.result _ _ (λ r only. (k.0, k.1, k.2, sym (only (after desk.store.start (log desk) k.0) k.3)))
    (c.open.ensures.only back)

pub returns-clause-refused : goal.returns-clause-refused
returns-clause-refused g c = λ h.
    let D = g.D.Disk in let back = subst (λ (d : g.row.D.Denot). D.honest d) (sym c.into_disk.ensures.disk) h in
    let d = c.into_disk.result in let k = c.into_disk.ensures.outcomes back (D.bytes d) (g.met.D.Disk.present d back) in
    let desk = desk_of c.args.self in
    IfErr-weaker c.open.result _ _
    (λ e none. openings.wanting (D.bytes d) (after desk.store.start (log desk) k.0) e.0 k.3 none)
    (c.open.ensures.refused back)
