use Rattle.std.proofs.Common.{◌≡◌, ◌∙◌, Err, IfSome, subst}
use Rattle.std.proofs.lemmas.Option.{IfSome_then}
use Rattle.std.proofs.lemmas.Result.{err_from_is_err_and}
use Rattle.fp_imports.specs.Faults.{Tells}
use Rattle.fp_commands.specs.Documents.{import_of}
use Rattle.fp_commands.proofs.Imported.{document-fault}
use Rattle.fp_commands.proofs.document.read_document.Goals as goal

pub returns-in_err-flags-clause-fault : goal.returns-in_err-flags-clause-fault
returns-in_err-flags-clause-fault g c =
    let left = g.R.Read.remaining c.args.r.now.inner in
    let fault = c.in_err-flags.field-0.0 in
    let p = err_from_is_err_and c.from_residual-in_err-flags.result c.from_residual-in_err-flags.ensures.1 in
    let refuses : IfSome left (λ input. Tells fault (λ f. import_of input ≡ Err f)) =
    IfSome_then left c.in_ok-bytes.ensures.bytes (λ input is.
    subst (λ bytes. Tells fault (λ f. import_of bytes ≡ Err f)) (c.deref.ensures.value ∙ is) c.in_err-flags.ensures.refused) in
    rw (p.1, p.2) (document-fault left fault refuses)
