use Rattle.std.proofs.Common.{rules}
use Rattle.std.proofs.lemmas.Result.{err_from_is_err_and}
use Rattle.fp_committer.proofs.Rooms.{halts_then, proceeds_then, ran_then}
use Rattle.fp_committer.proofs.room.finish.Goals as goal

pub loop-store-preserved : goal.loop-store-preserved
loop-store-preserved g c =
    let D = g.D.Disk in let a = c.args.store.now in let b = c.loop-store.store in let n = c.take_step.new.store in
    let inv = c.loop-store.invariant in let e = c.in_ok-take_step.ensures in (
      proceeds_then D a b n inv.0 e.proceeds,
      ran_then D.faults a b n inv.1 (search rules) e.ok,
    )

pub returns-in_err-take_step-clause-halts : goal.returns-in_err-take_step-clause-halts
returns-in_err-take_step-clause-halts g c =
    let p = err_from_is_err_and c.from_residual.result c.from_residual.ensures.1 in
    rw (p.1, p.2) (halts_then g.D.Disk c.args.store.now c.loop-store.store c.take_step.new.store
    c.in_err-take_step.field-0.0 c.loop-store.invariant.0 c.in_err-take_step.ensures.halts)
