use Rattle.std.proofs.lemmas.Result.{err_from_is_err_and}
use Rattle.fp_session.proofs.ProgressLemmas.{is_at-gone, is_at-halted}
use Rattle.fp_session.proofs.replies.go_on.Goals as goal

pub returns-in_err-go_on-clause-at : goal.returns-in_err-go_on-clause-at
returns-in_err-go_on-clause-at g c = λ first asked sent r most none i.
    let p = err_from_is_err_and c.from_residual.result c.from_residual.ensures.1 in let w = c.go_on.ensures in
    rw (p.1, p.2) (is_at-halted g.E.EditStore first c.args.edits.now c.go_on.new.self asked sent r i w.same w.ahead
    w.any_moment most c.in_err-go_on.field-0.0 none c.in_err-go_on.ensures.fate)

pub returns-clause-at : goal.returns-clause-at
returns-clause-at g c = λ first asked sent r most none i.
    let w = c.go_on.ensures in is_at-gone g.E.EditStore first c.args.edits.now c.go_on.new.self asked sent r i w.same
    w.ahead w.any_moment c.in_ok-go_on.ensures.fate
