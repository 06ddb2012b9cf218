use Rattle.std.proofs.Common.{◌∷◌, [], ◌++◌, List, Ok, length, map, refl, sym, subst, ap, ◌∙◌, arith}
use Rattle.std.proofs.lemmas.List.{map-append}
use Rattle.std.proofs.lemmas.Result.{err_from_is_err_and}
use Rattle.fp_edit.specs.Edits.{proposal_of}
use Rattle.fp_session.specs.Progress.{At}
use Rattle.fp_session.specs.Reply.{Reply, reply_of_code}
use Rattle.fp_session.specs.declared.fault.ApplyFault.TheVariants.{Memory}
use Rattle.fp_session.specs.declared.replies.Replies.{Replies}
use Rattle.fp_session.specs.declared.reply.Reply as code
use Rattle.fp_session.proofs.ProgressLemmas.{at-asked, broken-more, is_at-broken}
use Rattle.fp_session.proofs.replies.Replies.ask_edit.Goals as goal

pub returns-in_err-make_place-clause-asked : goal.returns-in_err-make_place-clause-asked
returns-in_err-make_place-clause-asked g c = λ first asked sent i.
    let p = err_from_is_err_and c.from_residual.result c.from_residual.ensures.1 in let most = length c.args.self.now.waiting.items in
    rw (p.1, p.2) (broken-more g.E.EditStore first c.make_place.new.edits asked (Ok (proposal_of c.args.edit) ∷ [])
    most most sent c.make_place.new.self c.in_err-make_place.field-0.0 (omega arith)
    (c.in_err-make_place.ensures.asked first asked sent i))

pub returns-in_err-reserve-clause-asked : goal.returns-in_err-reserve-clause-asked
returns-in_err-reserve-clause-asked g c = λ first asked sent i.
    let p = err_from_is_err_and c.from_residual-in_err-reserve.result c.from_residual-in_err-reserve.ensures.1 in
    let most = length c.args.self.now.waiting.items in
    let q = c.make_place.new.self in let now = c.make_place.new.edits in
    let r : Replies = record { text = q.text; waiting = c.reserve.new.self; is_told = q.is_told } in
    rw (p.1, p.2) (broken-more g.E.EditStore first now asked (Ok (proposal_of c.args.edit) ∷ []) most most sent r Memory (omega arith)
    (is_at-broken g.E.EditStore first now asked sent q r most (c.in_ok-make_place.ensures.asked first asked sent i)
    refl c.in_ok-make_place.ensures.no_more))

pub returns-clause-asked : goal.returns-clause-asked
returns-clause-asked g c = λ first asked sent i.
    let q = c.make_place.new.self in let reply = c.submit-reply.result in let x = Ok (proposal_of c.args.edit) in
    let next = c.submit-reply.new.edits in
    subst (λ (ws : List code.Reply). At g.E.EditStore first next (asked ++ x ∷ []) sent q.text.items
    (map reply_of_code ws) q.is_told)
    (sym (c.in-Ok.ensures.items ∙ ap (λ (l : List code.Reply). l ++ reply ∷ []) c.reserve.ensures.items))
    (subst (λ (rs : List Reply). At g.E.EditStore first next (asked ++ x ∷ []) sent q.text.items rs q.is_told)
    (sym (map-append reply_of_code q.waiting.items (reply ∷ [])))
    (at-asked g.E.EditStore first c.make_place.new.edits asked sent q.text.items (map reply_of_code q.waiting.items)
    q.is_told (c.in_ok-make_place.ensures.asked first asked sent i) next x (reply_of_code reply)
    c.submit-reply.ensures.taken))
