use Rattle.std.proofs.Common.{◌≡◌, ◌≢◌, Err, inl, refl, sym, subst, ◌∙◌, ap}
use Rattle.std.proofs.lemmas.Result.{err_from_is_err_and}
use Rattle.fp_commands.specs.declared.fault.CommandFault.{CommandFault}
use Rattle.fp_commands.specs.declared.fault.CommandFault.TheVariants.{Device, StoreFailed}
use Rattle.fp_commands.specs.Faults.{of_open, of_stream}
use Rattle.fp_commands.specs.Files.{Environment}
use Rattle.fp_commands.proofs.Opened.{only_read}
use Rattle.fp_commands.proofs.Told.{open_not_failed, showing-open}
use Rattle.fp_server.specs.Attends.{Serves}
use Rattle.fp_server.specs.Ends.{IsServingFault, unserved}
use Rattle.fp_server.proofs.EndsLemmas.{attending_calm, blames_writer, ends_well, ends_broken, says_all, served_broken, serves_badly}
use Rattle.fp_server.proofs.EndsLemmas.{serves_well, untouched_store}
use Rattle.fp_server.proofs.serving.serve.Goals as goal

-- the disk wasn't one to serve
pub returns-in-Err : goal.returns-in-Err
returns-in-Err g c =
    let D = g.F.Disk.Disk in let o = c.in_ok-disk.ensures in let before = c.in_ok-disk.disk in let fault = c.in-Err.fault in
    let old : Environment g.row.F.Denot g.row.I.Denot g.row.O.Denot =
    record { files = c.args.files.now; reader = c.args.r.now; writer = c.args.w.now } in
    let new : Environment g.row.F.Denot g.row.I.Denot g.row.O.Denot =
    record { files = c.close.new.self; reader = c.args.r.now; writer = c.args.w.now } in
    subst (λ (f : CommandFault). Serves g.F.DiskFiles D g.I.Read.remaining g.O.Write.contents old new c.args.path.now
    (Err f)) (sym c.into.ensures)
    (serves_badly g.F.DiskFiles D g.I.Read.remaining g.O.Write.contents old new c.args.path.now
    (c.close.ensures.asked ∙ o.asked) (λ other apart. c.close.ensures.others other apart ∙ o.others other apart)
    (of_open fault) (unserved (record {
      before = before;
      after = c.in-Err.disk;
      found = o.found;
      back = λ h. c.close.ensures.kept o.lent h;
      read = only_read D before c.in-Err.disk c.in-Err.ensures.same c.in-Err.ensures.any_moment c.in-Err.ensures.called;
      fault = showing-open (D.honest before) (D.bytes before) fault c.in-Err.ensures.fault c.in-Err.ensures.refused;
    })) (λ is. absurd (open_not_failed fault is)) (λ _. inl refl))

-- an address wasn't bound
pub returns-in-Err-bind : goal.returns-in-Err-bind
returns-in-Err-bind g c =
    let D = g.F.Disk.Disk in let o = c.in_ok-disk.ensures in let back = c.close-in-Err-bind.ensures in
    let t = c.in-Ok.opened.0 in let e = c.in-Ok.ensures in let f = c.fault_of.result in
    let never : f ≢ StoreFailed = attending_calm f c.fault_of.ensures in
    serves_badly g.F.DiskFiles D g.I.Read.remaining g.O.Write.contents _ _ c.args.path.now (back.asked ∙ o.asked)
    (λ other apart. back.others other apart ∙ o.others other apart) f
    (ends_broken g.F.DiskFiles D c.args.files.now c.close-in-Err-bind.new.self c.args.path.now c.in_ok-disk.disk
    c.into_disk.result t t o.found e.stands e.any_moment e.honest e.no_failure
    c.into_disk.ensures.disk c.into_disk.ensures.outcomes (λ h. back.kept o.lent h) f (inl c.fault_of.ensures)
    (untouched_store D t c.untouched.ensures f never))
    (λ is. absurd (never is)) (λ _. inl refl)

-- the end wasn't told
pub returns-in_err-say-in-Ok-serve_store : goal.returns-in_err-say-in-Ok-serve_store
returns-in_err-say-in-Ok-serve_store g c =
    let D = g.F.Disk.Disk in let o = c.in_ok-disk.ensures in let back = c.close-in-Ok-serve_store.ensures in
    let t = c.in-Ok.opened.0 in let e = c.in-Ok.ensures in let s = c.in-Ok-serve_store.store in
    let p = err_from_is_err_and c.from_residual-in_err-say-in-Ok-serve_store.result
    c.from_residual-in_err-say-in-Ok-serve_store.ensures.1 in
    let device : p.0 ≡ Device = p.2 ∙ ap of_stream c.in_err-say-in-Ok-serve_store.ensures.fault in
    let is : IsServingFault p.0 = inl (inl device) in
    let never : p.0 ≢ StoreFailed = attending_calm p.0 (inl device) in
    let given = c.into_disk-in-Ok-serve_store.ensures in
    rw (p.1) (serves_badly g.F.DiskFiles D g.I.Read.remaining g.O.Write.contents _ _ c.args.path.now
    (back.asked ∙ o.asked) (λ other apart. back.others other apart ∙ o.others other apart) p.0
    (ends_broken g.F.DiskFiles D c.args.files.now c.close-in-Ok-serve_store.new.self c.args.path.now
    c.in_ok-disk.disk c.into_disk-in-Ok-serve_store.result t s o.found e.stands e.any_moment e.honest e.no_failure
    given.disk given.outcomes (λ h. back.kept o.lent h) p.0 is (served_broken D t s c.in-Ok-serve_store.ensures.well.0 p.0 never))
    (λ failed. absurd (never failed))
    (λ _. blames_writer c.args.r.now c.serve_store.new.r c.args.w.now c.serve_store.new.w c.say.new.self
    c.in_err-say-in-Ok-serve_store.field-0.0 c.in_err-say-in-Ok-serve_store.ensures.fault c.in-Ok-serve_store.ensures.unfailed
    c.in_err-say-in-Ok-serve_store.ensures.counted))

-- it ended well
pub returns-in_ok-say-in-Ok-serve_store : goal.returns-in_ok-say-in-Ok-serve_store
returns-in_ok-say-in-Ok-serve_store g c =
    let D = g.F.Disk.Disk in let held = g.O.Write.contents in let o = c.in_ok-disk.ensures in
    let back = c.close-in-Ok-serve_store.ensures in let t = c.in-Ok.opened.0 in let e = c.in-Ok.ensures in
    let s = c.in-Ok-serve_store.store in let served = c.in-Ok-serve_store.ensures in let given = c.into_disk-in-Ok-serve_store.ensures in
    serves_well g.F.DiskFiles D g.I.Read.remaining g.O.Write.contents _ _ c.args.path.now (back.asked ∙ o.asked)
    (λ other apart. back.others other apart ∙ o.others other apart) served.ended
    (ends_well g.F.DiskFiles D c.args.files.now c.close-in-Ok-serve_store.new.self c.args.path.now c.in_ok-disk.disk
    c.into_disk-in-Ok-serve_store.result t s o.found e.stands e.any_moment e.honest e.no_failure
    given.disk given.outcomes (λ h. back.kept o.lent h) served.well.0 (held c.args.w.now.inner)
    (held c.say.new.self.inner) served.well.1.0 c.revision-revision.result c.revision-revision.ensures
    (says_all c.revision-revision.result (held c.args.w.now.inner) (held c.serve_store.new.w.inner)
    (held c.say.new.self.inner) served.said c.in_ok-say-in-Ok-serve_store.ensures.text))

-- a fault ended it
pub returns-in-Err-serve_store : goal.returns-in-Err-serve_store
returns-in-Err-serve_store g c =
    let D = g.F.Disk.Disk in let o = c.in_ok-disk.ensures in let back = c.close-in-Err-serve_store.ensures in
    let e = c.in-Ok.ensures in let t = c.in-Ok.opened.0 in
    let broken = c.in-Err-serve_store.ensures in let given = c.into_disk-in-Err-serve_store.ensures in
    serves_badly g.F.DiskFiles D g.I.Read.remaining g.O.Write.contents _ _ c.args.path.now (back.asked ∙ o.asked)
    (λ other apart. back.others other apart ∙ o.others other apart) c.in-Err-serve_store.fault
    (ends_broken g.F.DiskFiles D c.args.files.now c.close-in-Err-serve_store.new.self c.args.path.now
    c.in_ok-disk.disk c.into_disk-in-Err-serve_store.result t c.in-Err-serve_store.store o.found e.stands
    e.any_moment e.honest e.no_failure
    given.disk given.outcomes (λ h. back.kept o.lent h) c.in-Err-serve_store.fault broken.fault broken.broken)
    broken.calm broken.blames
