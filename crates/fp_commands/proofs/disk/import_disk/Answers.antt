use Rattle.std.proofs.Common.{◌≡◌, Err, map, refl, inr, sym, ap, subst, ◌∙◌}
use Rattle.std.proofs.lemmas.Option.{IfSome_then}
use Rattle.fp_disk.specs.Crashes.{SameHonesty}
use Rattle.fp_session.specs.Asks.{asked_by_flags, flag_bytes}
use Rattle.fp_session.specs.Session.{disk_of, flags_of}
use Rattle.fp_session.specs.declared.replies.TheConstants.{MOST_WAITING}
use Rattle.fp_commands.specs.Disks.{AskedByDocument, IsImportingFault, IsOnlyRead}
use Rattle.fp_commands.specs.Documents.{IsDocumentFault}
use Rattle.fp_commands.specs.Faults.{of_open}
use Rattle.fp_commands.specs.Files.{ImportsToDisk, Streams}
use Rattle.fp_commands.specs.declared.fault.CommandFault.{CommandFault}
use Rattle.fp_commands.proofs.Blamed.{blames-beside, blames-open, blames-read, wants-open}
use Rattle.fp_commands.proofs.Courses.{ran}
use Rattle.fp_commands.proofs.Imported.{document-no-file, importing-document, importing-open, importing-run}
use Rattle.fp_commands.proofs.Opened.{only_read, unbegun}
use Rattle.fp_commands.proofs.Told.{if_file_refused, open_not_failed}
use Rattle.fp_commands.proofs.disk.import_disk.Goals as goal

-- the disk wasn't opened
pub returns-in-Err : goal.returns-in-Err
returns-in-Err g c =
    let D = g.D.Disk in let e = c.in-Err.ensures in let f = c.in-Err.fault in let d0 = c.args.disk in let d1 = c.in-Err.disk in
    let s : Streams g.row.R.Denot g.row.W.Denot = record { reader = c.args.r.now; writer = c.args.w.now } in
    subst (λ (x : CommandFault). ImportsToDisk D g.R.Read.remaining g.W.Write.contents s s d0 d1 (Err x)) (sym c.into.ensures)
    (unbegun D g.R.Read.remaining g.W.Write.contents AskedByDocument MOST_WAITING IsImportingFault s s d0 d1
    (of_open f) (only_read D d0 d1 e.same e.any_moment e.called) e.honest (open_not_failed f)
    (importing-open (D.honest d0) (D.bytes d0) (g.R.Read.remaining s.reader.inner) f e.fault e.refused) refl
    (λ h none. refl) (if_file_refused (s.reader ≡ s.reader) (of_open f) refl)
    (blames-open (D.faults d0) (D.faults d1) _ f e.cause) (λ not. refl) (wants-open f (D.faults d1 ≡ D.faults d0) e.memory))

-- no document was read
pub returns-in-Err-read_document : goal.returns-in-Err-read_document
returns-in-Err-read_document g c =
    let D = g.D.Disk in let e = c.in-Ok.ensures in let s = c.in-Ok.session in let f = c.in-Err-read_document.fault in
    let read = c.in-Err-read_document.ensures in let d0 = c.args.disk in
    let left = g.R.Read.remaining c.args.r.now.inner in
    let old : Streams g.row.R.Denot g.row.W.Denot = record { reader = c.args.r.now; writer = c.args.w.now } in
    let new : Streams g.row.R.Denot g.row.W.Denot = record { reader = c.read_document.new.r; writer = c.args.w.now } in
    let same = sym c.into_disk.ensures.disk in
    unbegun D g.R.Read.remaining g.W.Write.contents AskedByDocument MOST_WAITING IsImportingFault old new d0 c.into_disk.result f
    (subst (λ (x : g.row.D.Denot). IsOnlyRead D d0 x) same
    (only_read D d0 (disk_of s) e.same e.any_moment (inr e.called)))
    (subst (λ (x : g.row.D.Denot). SameHonesty D d0 x) same e.honest)
    (λ is. subst (λ (x : CommandFault). IsDocumentFault left x) is read.fault)
    (importing-document (D.honest d0) (D.bytes d0) left f (λ h. (flags_of s, e.stands h)) read.fault) refl
    (λ h none. absurd (none (flags_of s) (e.stands h)))
    (document-no-file (new.reader ≡ old.reader) left f read.fault)
    (blames-read (D.faults d0) (D.faults c.into_disk.result) c.args.r.now.failures c.read_document.new.r.failures
    c.args.w.now.failures f (ap D.faults c.into_disk.ensures.disk ∙ e.no_failure) read.device) read.read
    (λ is. ap D.faults c.into_disk.ensures.disk ∙ e.no_failure)

-- it was
pub returns : goal.returns
returns g c =
    let D = g.D.Disk in let e = c.in-Ok.ensures in let s = c.in-Ok.session in let l = c.import_flags-kept in
    let b = c.end_run.ensures in let read = c.in-Ok-read_document.ensures in
    let left = g.R.Read.remaining c.args.r.now.inner in
    let puts = map flag_bytes c.in-Ok-read_document.flags.items in
    let old : Streams g.row.R.Denot g.row.W.Denot = record { reader = c.args.r.now; writer = c.args.w.now } in
    let new : Streams g.row.R.Denot g.row.W.Denot = record { reader = c.read_document.new.r; writer = l.new.w } in
    ran D g.R.Read.remaining g.W.Write.contents AskedByDocument MOST_WAITING IsImportingFault old new c.args.disk
    c.end_run.result.0 s l.result.0 e.stands e.only e.ready e.begins e.rests e.no_failure e.called e.any_moment
    e.honest b.disk b.keeps
    (λ Holds. Holds (asked_by_flags puts))
    (λ P h. IfSome_then left read.flags (λ input is. (asked_by_flags puts, (puts, is, refl), h)))
    (λ P Q h i. (h, i))
    (importing-run (D.honest c.args.disk) (D.bytes c.args.disk) left) g.met.D.Disk.only_now g.met.D.Disk.counts_now
    g.met.D.Disk.present l.result.1 c.end_run.result.1 b.outcome l.ensures.runs
    (blames-beside c.args.r.now.failures new.reader.failures c.args.w.now.failures l.new.w.failures l.result.1
    read.device l.ensures.device) (λ f is not. read.device)
