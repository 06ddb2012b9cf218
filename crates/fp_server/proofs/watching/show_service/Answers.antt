use Rattle.std.proofs.Common.{Err, sym, subst}
use Rattle.std.proofs.lemmas.Result.{err_from_is_err_and}
use Rattle.fp_stream.specs.declared.watch.WatchFault.{WatchFault}
use Rattle.fp_server.specs.Attends.{ShowsFrames}
use Rattle.fp_server.proofs.Shows.{no_frames-failed}
use Rattle.fp_server.proofs.watching.show_service.Goals as goal

pub returns-in_err-write_hello-clause-shown : goal.returns-in_err-write_hello-clause-shown
returns-in_err-write_hello-clause-shown g c = λ same.
    let p = err_from_is_err_and c.from_residual.result c.from_residual.ensures.1 in let held = g.O.Write.contents c.args.w.now.inner in
    rw (p.1) (subst (λ (e : WatchFault). ShowsFrames held held (Err e)) (sym p.2) (no_frames-failed held c.in_err-write_hello.field-0.0))
