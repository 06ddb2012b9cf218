use Rattle.std.proofs.lemmas.Result.{IfOk-weaker}
use Rattle.fp_edit.proofs.Outlined.{is_document_of}
use Rattle.fp_edit.proofs.flag_set.FlagSet.outlined.Goals as goal

pub returns : goal.returns
returns c =
    let set = c.self.inside in
    rw (← c.self.view_is) (IfOk-weaker _ _ _
    (λ d p. is_document_of d set.flags.entries set.revision set.limit c.self.invariant.0
    c.self.invariant.1.changed p.0 p.1) c.document_of.ensures)
