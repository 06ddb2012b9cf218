use Rattle.std.proofs.Common.{◌++◌, ℕ, List, false, length, map, refl, sym, ap, subst, ◌∙◌, arith}
use Rattle.std.proofs.lemmas.List.{length-map}
use Rattle.std.proofs.lemmas.Result.{err_from_is_err_and}
use Rattle.fp_session.specs.Progress.{IsBroken}
use Rattle.fp_session.specs.Reply.{reply_of_code}
use Rattle.fp_session.specs.declared.fault.ApplyFault.{ApplyFault}
use Rattle.fp_session.proofs.ProgressLemmas.{is_at-broken, is_at-sealed, seal-broken}
use Rattle.fp_session.proofs.RunLemmas.{told_up_to-all}
use Rattle.fp_session.proofs.replies.Replies.seal.Goals as goal

pub returns-in_err-kept-clause-asked : goal.returns-in_err-kept-clause-asked
returns-in_err-kept-clause-asked g c = λ first asked sent i.
    let p = err_from_is_err_and c.from_residual.result c.from_residual.ensures.1 in let q = c.args.self.now in
    rw (p.1, p.2) (is_at-broken g.E.EditStore first c.args.edits.now asked sent q q (length q.waiting.items) i refl (omega arith))

pub returns-in_err-failed-clause-asked : goal.returns-in_err-failed-clause-asked
returns-in_err-failed-clause-asked g c = λ first asked sent i.
    let p = err_from_is_err_and c.from_residual-in_err-failed.result c.from_residual-in_err-failed.ensures.1 in let q = c.args.self.now in
    rw (p.1, p.2) (is_at-broken g.E.EditStore first c.args.edits.now asked sent q q (length q.waiting.items) i refl (omega arith))

pub returns-in_err-reserve-clause-asked : goal.returns-in_err-reserve-clause-asked
returns-in_err-reserve-clause-asked g c = λ first asked sent i.
    let p = err_from_is_err_and c.from_residual-in_err-reserve.result c.from_residual-in_err-reserve.ensures.1 in let q = c.args.self.now in
    rw (p.1, p.2) (is_at-broken g.E.EditStore first c.args.edits.now asked sent q
    (record { text = c.reserve.new.self; waiting = q.waiting; is_told = q.is_told }) (length q.waiting.items) i
    c.reserve.ensures.items (omega arith))

pub returns-in_err-go_on-clause-asked : goal.returns-in_err-go_on-clause-asked
returns-in_err-go_on-clause-asked g c = λ first asked sent i.
    let p = err_from_is_err_and c.from_residual-in_err-go_on.result c.from_residual-in_err-go_on.ensures.1 in
    let old = c.args.self.now in let w = c.in-Ok.ensures in let t = c.tell.ensures in
    rw (p.1, p.2) (c.in_err-go_on.ensures.at first asked sent c.tell.new.self (length old.waiting.items) t.none
    (is_at-sealed g.E.EditStore first c.args.edits.now c.commit.new.self asked sent old c.tell.new.self
    c.in_ok-kept.kept i w.same w.kept w.any_moment w.fate c.in_ok-kept.ensures.told
    (t.text ∙ ap (λ (l : List ℕ). l ++ c.in_ok-kept.kept.text.items) c.reserve.ensures.items) t.told t.none))

pub returns-clause-asked : goal.returns-clause-asked
returns-clause-asked g c = λ first asked sent i.
    let old = c.args.self.now in let w = c.in-Ok.ensures in let t = c.tell.ensures in
    c.in_ok-go_on.ensures.at first asked sent c.tell.new.self 0 t.none
    (is_at-sealed g.E.EditStore first c.args.edits.now c.commit.new.self asked sent old c.tell.new.self
    c.in_ok-kept.kept i w.same w.kept w.any_moment w.fate c.in_ok-kept.ensures.told
    (t.text ∙ ap (λ (l : List ℕ). l ++ c.in_ok-kept.kept.text.items) c.reserve.ensures.items) t.told t.none)

pub returns-in-Err-clause-asked : goal.returns-in-Err-clause-asked
returns-in-Err-clause-asked g c = λ first asked sent i.
    let old = c.args.self.now in let w = c.in-Err.ensures in let next = c.commit.new.self in let t = c.tell-in-Err.ensures in
    let all = told_up_to-all false old.waiting.items c.in_ok-failed.failed c.in_ok-failed.ensures.told in
    let few = length-map old.waiting.items reply_of_code in
    subst (λ (f : ApplyFault). IsBroken g.E.EditStore (length old.waiting.items) first next asked sent
    c.tell-in-Err.new.self f) (sym c.into.ensures)
    (seal-broken g.E.EditStore first c.args.edits.now asked sent old.text.items (map reply_of_code old.waiting.items)
    old.is_told i next c.tell-in-Err.new.self (length old.waiting.items) c.in-Err.fault
    w.same w.ahead w.any_moment w.fate
    (t.text ∙ ap (λ (l : List ℕ). l ++ c.in_ok-failed.failed.text.items) c.reserve.ensures.items ∙
    ap (λ (l : List ℕ). old.text.items ++ l) all.0)
    (omega (arith, few)))
