use Rattle.std.proofs.Common.{◌≡◌, ◌≢◌, Bool, Result, Err, IfErr, IfSome, refl, sym, subst}
use Rattle.std.proofs.lemmas.Option.{IfSome_then}
use Rattle.fp_session.specs.Asks.{asked_by_input}
use Rattle.fp_session.specs.declared.fault.ApplyFault.{ApplyFault}
use Rattle.fp_session.specs.declared.fault.ApplyFault.TheVariants as run
use Rattle.fp_commands.specs.Disks.{AskedByLines, IsApplyingFault}
use Rattle.fp_commands.specs.Faults.{of_open}
use Rattle.fp_commands.specs.Files.{AppliesToDisk, Streams}
use Rattle.fp_commands.specs.declared.fault.CommandFault.{CommandFault}
use Rattle.fp_commands.proofs.Blamed.{blames-open, wants-open}
use Rattle.fp_commands.proofs.Courses.{ran}
use Rattle.fp_commands.proofs.Opened.{only_read, unbegun}
use Rattle.fp_commands.proofs.Told.{applying-open, applying-run, if_file_refused, open_not_failed, some_both}
use Rattle.fp_commands.proofs.disk.apply_disk.Goals as goal

-- the disk wasn't opened
pub returns-in-Err : goal.returns-in-Err
returns-in-Err g c =
    let D = g.D.Disk in let e = c.in-Err.ensures in let f = c.in-Err.fault in let d0 = c.args.disk in let d1 = c.in-Err.disk in
    let s : Streams g.row.R.Denot g.row.W.Denot = record { reader = c.args.r.now; writer = c.args.w.now } in
    subst (λ (x : CommandFault). AppliesToDisk D g.R.Read.remaining g.W.Write.contents s s d0 d1 (Err x)) (sym c.into.ensures)
    (unbegun D g.R.Read.remaining g.W.Write.contents AskedByLines 1
    (λ is_honest bytes left. IsApplyingFault is_honest bytes) s s d0 d1 (of_open f)
    (only_read D d0 d1 e.same e.any_moment e.called) e.honest (open_not_failed f)
    (applying-open (D.honest d0) (D.bytes d0) f e.fault e.refused) refl (λ h none. refl)
    (if_file_refused (s.reader ≡ s.reader) (of_open f) refl)
    (blames-open (D.faults d0) (D.faults d1) _ f e.cause) (λ not. refl) (wants-open f (D.faults d1 ≡ D.faults d0) e.memory))

-- it was
pub returns : goal.returns
returns g c =
    let D = g.D.Disk in let e = c.in-Ok.ensures in let s = c.in-Ok.session in let l = c.apply_lines-kept in
    let b = c.end_run.ensures in let left = g.R.Read.remaining c.args.r.now.inner in
    let old : Streams g.row.R.Denot g.row.W.Denot = record { reader = c.args.r.now; writer = c.args.w.now } in
    let new : Streams g.row.R.Denot g.row.W.Denot = record { reader = l.new.r; writer = l.new.w } in
    ran D g.R.Read.remaining g.W.Write.contents AskedByLines 1
    (λ is_honest bytes read. IsApplyingFault is_honest bytes) old new c.args.disk c.end_run.result.0 s l.result.0
    e.stands e.only e.ready e.begins e.rests e.no_failure e.called e.any_moment e.honest b.disk b.keeps
    (λ Holds. IfSome left (λ input. Holds (asked_by_input input)))
    (λ P h. IfSome_then left h (λ input x. (asked_by_input input, refl, x)))
    (λ P Q h i. some_both left (λ input. P (asked_by_input input)) (λ input. Q (asked_by_input input)) h i)
    (applying-run (D.honest c.args.disk) (D.bytes c.args.disk)) g.met.D.Disk.only_now g.met.D.Disk.counts_now
    g.met.D.Disk.present l.result.1 c.end_run.result.1 b.outcome l.ensures.runs l.ensures.device
    (λ f is. subst (λ (o : Result Bool ApplyFault). IfErr o
    (λ x. x ≢ run.Device → l.new.r.failures ≡ c.args.r.now.failures)) is l.ensures.read)
