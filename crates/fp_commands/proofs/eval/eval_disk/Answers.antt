use Rattle.std.proofs.Common.{sym, subst}
use Rattle.fp_group_commit.specs.Tokens.{Identity}
use Rattle.fp_commands.specs.declared.fault.CommandFault.{CommandFault}
use Rattle.fp_commands.specs.Disks.{IsShowingFault, IsStreamFault}
use Rattle.fp_commands.specs.Eval.{IsAnswered, IsEvaluated}
use Rattle.fp_session.proofs.Commits.{ok_more}
use Rattle.fp_commands.proofs.Told.{showing-open, showing-stream}
use Rattle.fp_recovery.proofs.Cases.{err_more}
use Rattle.fp_commands.proofs.eval.eval_disk.Goals as goal

pub returns-in-Ok-clause-evaluated : goal.returns-in-Ok-clause-evaluated
returns-in-Ok-clause-evaluated g c =
    let D = g.D.Disk in let left = g.R.Read.remaining c.args.r.now.inner in
    let old = g.W.Write.contents c.args.w.now.inner in let new = g.W.Write.contents c.eval-outcome.new.w.inner in
    let key = c.args.key.now in let now = c.args.now in
    ok_more c.eval-outcome.result (IsAnswered c.in-Ok.opening.start key now left old new)
    (IsEvaluated (D.honest c.args.disk) (D.bytes c.args.disk) key now left old new)
    (λ w. record {
      flags = c.in-Ok.store.store.start;
      stood = c.in-Ok.ensures.stands;
      answered =
          subst (λ (i : Identity). IsAnswered i.start key now left old new) c.in-Ok.ensures.opening w;
    })
    c.eval-outcome.ensures.answered

pub returns-in-Ok-clause-fault : goal.returns-in-Ok-clause-fault
returns-in-Ok-clause-fault g c =
    let honest = g.D.Disk.honest c.args.disk in let bytes = g.D.Disk.bytes c.args.disk in
    err_more c.eval-outcome.result IsStreamFault (IsShowingFault honest bytes) (showing-stream honest bytes) c.eval-outcome.ensures.fault

pub returns-in-Err-clause-fault : goal.returns-in-Err-clause-fault
returns-in-Err-clause-fault g c =
    let honest = g.D.Disk.honest c.args.disk in let bytes = g.D.Disk.bytes c.args.disk in
    subst (λ (f : CommandFault). IsShowingFault honest bytes f) (sym c.into.ensures)
    (showing-open honest bytes c.in-Err.fault c.in-Err.ensures.fault c.in-Err.ensures.refused)

pub returns-in-Ok-clause-nothing_stood : goal.returns-in-Ok-clause-nothing_stood
returns-in-Ok-clause-nothing_stood g c = λ h none. absurd (none c.in-Ok.store.store.start (c.in-Ok.ensures.stands h))
