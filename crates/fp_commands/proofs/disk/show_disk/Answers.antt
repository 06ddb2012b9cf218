use Rattle.std.proofs.Common.{sym, ap, subst, ◌∙◌}
use Rattle.fp_group_commit.specs.Tokens.{Identity}
use Rattle.std.specs.Io.KnownBytes.{Appends}
use Rattle.fp_edit.specs.Flags.{State}
use Rattle.fp_session.specs.Run.{show_line}
use Rattle.fp_recovery.proofs.Cases.{err_more}
use Rattle.fp_commands.specs.declared.fault.CommandFault.{CommandFault}
use Rattle.fp_commands.specs.Disks.{IsShown, IsShowingFault, IsStreamFault}
use Rattle.fp_session.proofs.Commits.{ok_more}
use Rattle.fp_commands.proofs.Told.{showing-open, showing-stream}
use Rattle.fp_commands.proofs.disk.show_disk.Goals as goal

pub returns-in-Ok-clause-shown : goal.returns-in-Ok-clause-shown
returns-in-Ok-clause-shown g c =
    let D = g.D.Disk in let old = g.W.Write.contents c.args.w.now.inner in let new = g.W.Write.contents c.show-outcome.new.w.inner in
    ok_more c.show-outcome.result (Appends old new (show_line c.set.result.now))
    (IsShown (D.honest c.args.disk) (D.bytes c.args.disk) old new)
    (λ w. record {
      flags = c.in-Ok.store.store.start;
      stood = c.in-Ok.ensures.stands;
      written =
          subst (λ (s : State). Appends old new (show_line s))
          (c.set.ensures ∙ ap (λ (i : Identity). i.start) c.in-Ok.ensures.opening) w;
    })
    c.show-outcome.ensures.shown

pub returns-in-Ok-clause-fault : goal.returns-in-Ok-clause-fault
returns-in-Ok-clause-fault g c =
    let honest = g.D.Disk.honest c.args.disk in let bytes = g.D.Disk.bytes c.args.disk in
    err_more c.show-outcome.result IsStreamFault (IsShowingFault honest bytes) (showing-stream honest bytes) c.show-outcome.ensures.fault

pub returns-in-Err-clause-fault : goal.returns-in-Err-clause-fault
returns-in-Err-clause-fault g c =
    let honest = g.D.Disk.honest c.args.disk in let bytes = g.D.Disk.bytes c.args.disk in
    subst (λ (f : CommandFault). IsShowingFault honest bytes f) (sym c.into.ensures)
    (showing-open honest bytes c.in-Err.fault c.in-Err.ensures.fault c.in-Err.ensures.refused)

pub returns-in-Ok-clause-nothing_stood : goal.returns-in-Ok-clause-nothing_stood
returns-in-Ok-clause-nothing_stood g c = λ h none. absurd (none c.in-Ok.store.store.start (c.in-Ok.ensures.stands h))
