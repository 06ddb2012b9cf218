use Rattle.std.proofs.Common.{◌∷◌, [], ◌++◌, List, length, map, refl, sym, subst, arith}
use Rattle.std.proofs.lemmas.List.{map-append}
use Rattle.std.proofs.lemmas.Result.{err_from_is_err_and}
use Rattle.fp_session.specs.Progress.{At}
use Rattle.fp_session.specs.Reply.{Reply, reply_of_code}
use Rattle.fp_session.specs.declared.fault.ApplyFault.TheVariants.{Memory}
use Rattle.fp_session.specs.declared.replies.Replies.{Replies}
use Rattle.fp_session.specs.declared.reply.Reply as code
use Rattle.fp_session.specs.declared.reply.Reply.TheVariants.{NoEdit}
use Rattle.fp_session.proofs.ProgressLemmas.{at-no_edit, broken-more, is_at-broken}
use Rattle.fp_session.proofs.RunLemmas.{no_edit-answers}
use Rattle.fp_session.proofs.replies.Replies.refuse_line.Goals as goal

pub returns-in_err-make_place-clause-asked : goal.returns-in_err-make_place-clause-asked
returns-in_err-make_place-clause-asked g c = λ first asked sent x tells i.
    let p = err_from_is_err_and c.from_residual.result c.from_residual.ensures.1 in let most = length c.args.self.now.waiting.items in
    rw (p.1, p.2) (broken-more g.E.EditStore first c.make_place.new.edits asked (x ∷ []) most most sent
    c.make_place.new.self c.in_err-make_place.field-0.0 (omega arith)
    (c.in_err-make_place.ensures.asked first asked sent i))

pub returns-in_err-push-clause-asked : goal.returns-in_err-push-clause-asked
returns-in_err-push-clause-asked g c = λ first asked sent x tells i.
    let p = err_from_is_err_and c.from_residual-in_err-push.result c.from_residual-in_err-push.ensures.1 in
    let most = length c.args.self.now.waiting.items in
    let q = c.make_place.new.self in let now = c.make_place.new.edits in
    let r : Replies = record { text = q.text; waiting = c.push.new.self; is_told = q.is_told } in
    rw (p.1, p.2) (broken-more g.E.EditStore first now asked (x ∷ []) most most sent r Memory (omega arith)
    (is_at-broken g.E.EditStore first now asked sent q r most (c.in_ok-make_place.ensures.asked first asked sent i)
    refl c.in_ok-make_place.ensures.no_more))

pub returns-clause-asked : goal.returns-clause-asked
returns-clause-asked g c = λ first asked sent x tells i.
    let q = c.make_place.new.self in let now = c.make_place.new.edits in let reply = NoEdit c.args.fault in
    subst (λ (ws : List code.Reply). At g.E.EditStore first now (asked ++ x ∷ []) sent q.text.items
    (map reply_of_code ws) q.is_told) (sym c.in_ok-push.ensures.items)
    (subst (λ (rs : List Reply). At g.E.EditStore first now (asked ++ x ∷ []) sent q.text.items rs q.is_told)
    (sym (map-append reply_of_code q.waiting.items (reply ∷ [])))
    (at-no_edit g.E.EditStore first now asked sent q.text.items (map reply_of_code q.waiting.items) q.is_told
    (c.in_ok-make_place.ensures.asked first asked sent i) x (reply_of_code reply)
    (no_edit-answers (g.E.EditStore.state now) x c.args.fault tells)))
