use Rattle.std.proofs.lemmas.Result.{err_from_is_err_and}
use Rattle.fp_session.proofs.ProgressLemmas.{is_at-gone, is_at-halted}
use Rattle.fp_session.proofs.replies.rest.Goals as goal

pub returns-in_err-rest-clause-at : goal.returns-in_err-rest-clause-at
returns-in_err-rest-clause-at g c = λ first asked sent r most none i.
    let p = err_from_is_err_and c.from_residual.result c.from_residual.ensures.1 in let w = c.rest.ensures in
    rw (p.1, p.2) (is_at-halted g.E.EditStore first c.args.edits.now c.rest.new.self asked sent r i w.same w.ahead
    w.any_moment most c.in_err-rest.field-0.0 none c.in_err-rest.ensures.fate)

pub returns-clause-at : goal.returns-clause-at
returns-clause-at g c = λ first asked sent r most none i.
    let w = c.rest.ensures in is_at-gone g.E.EditStore first c.args.edits.now c.rest.new.self asked sent r i w.same
    w.ahead w.any_moment c.in_ok-rest.ensures.fate
