use Rattle.std.proofs.Common.{◌≡◌, ◌≤◌, ◌++◌, ℕ, List, [], length, map, refl, ap, subst, ◌∙◌, arith}
use Rattle.std.proofs.lemmas.Result.{err_from_is_err_and}
use Rattle.fp_session.specs.Progress.{At}
use Rattle.fp_session.specs.Reply.{reply_of_code}
use Rattle.fp_session.specs.Run.{show_line}
use Rattle.fp_session.specs.declared.reply.Reply as code
use Rattle.fp_session.proofs.ProgressLemmas.{at-ended, is_at-broken}
use Rattle.fp_session.proofs.replies.Replies.end.Goals as goal

-- nothing waits
few : (ws : List code.Reply) (most : ℕ) → ws ≡ [] → length ws ≤ most
few ws most none = let zero = ap length none in omega (arith, zero)

pub returns-in_err-rest-clause-ended : goal.returns-in_err-rest-clause-ended
returns-in_err-rest-clause-ended g c = λ first asked sent i.
    let p = err_from_is_err_and c.from_residual-in_err-rest.result c.from_residual-in_err-rest.ensures.1 in
    rw (p.1, p.2) (c.in_err-rest.ensures.at first asked sent c.seal.new.self (length c.args.self.now.waiting.items)
    c.in_ok-seal.ensures.none (c.in_ok-seal.ensures.asked first asked sent i))

pub returns-in_err-line-clause-ended : goal.returns-in_err-line-clause-ended
returns-in_err-line-clause-ended g c = λ first asked sent i.
    let p = err_from_is_err_and c.from_residual-in_err-line.result c.from_residual-in_err-line.ensures.1 in let q = c.seal.new.self in
    let most = length c.args.self.now.waiting.items in
    rw (p.1, p.2) (is_at-broken g.E.EditStore first c.rest.new.edits asked sent q q most
    (c.in_ok-rest.ensures.at first asked sent q 0 c.in_ok-seal.ensures.none
    (c.in_ok-seal.ensures.asked first asked sent i)) refl (few q.waiting.items most c.in_ok-seal.ensures.none))

pub returns-in_err-extend_from_slice-clause-ended : goal.returns-in_err-extend_from_slice-clause-ended
returns-in_err-extend_from_slice-clause-ended g c = λ first asked sent i.
    let p = err_from_is_err_and c.from_residual-in_err-extend_from_slice.result
    c.from_residual-in_err-extend_from_slice.ensures.1 in let q = c.seal.new.self in
    let most = length c.args.self.now.waiting.items in
    rw (p.1, p.2) (is_at-broken g.E.EditStore first c.rest.new.edits asked sent q
    (record { text = c.extend_from_slice.new.self; waiting = q.waiting; is_told = q.is_told }) most
    (c.in_ok-rest.ensures.at first asked sent q 0 c.in_ok-seal.ensures.none
    (c.in_ok-seal.ensures.asked first asked sent i)) c.in_err-extend_from_slice.ensures.items
    (few q.waiting.items most c.in_ok-seal.ensures.none))

pub returns-clause-ended : goal.returns-clause-ended
returns-clause-ended g c = λ first asked sent i.
    let q = c.seal.new.self in let next = c.rest.new.edits in
    let now : At g.E.EditStore first next asked sent q.text.items [] q.is_told =
    subst (λ (ws : List code.Reply). At g.E.EditStore first next asked sent q.text.items (map reply_of_code ws)
    q.is_told) c.in_ok-seal.ensures.none
    (c.in_ok-rest.ensures.at first asked sent q 0 c.in_ok-seal.ensures.none
    (c.in_ok-seal.ensures.asked first asked sent i)) in
    at-ended g.E.EditStore first next asked sent q.text.items q.is_told
    (record { text = c.extend_from_slice.new.self; waiting = q.waiting; is_told = q.is_told }) now
    (c.in_ok-extend_from_slice.ensures.items ∙
    ap (λ (l : List ℕ). q.text.items ++ l)
    (c.deref.ensures.value ∙ c.in_ok-line.ensures ∙ ap show_line c.flags.ensures.value)) refl
    c.in_ok-rest.ensures.rests
