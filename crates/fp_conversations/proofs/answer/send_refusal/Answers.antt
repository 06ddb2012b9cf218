use Rattle.std.proofs.Common.{◌≡◌, ℕ, List, subst, ◌∙◌}
use Rattle.std.proofs.lemmas.Result.{on_ok_weaker}
use Rattle.std.specs.Io.KnownBytes.{Appends}
use Rattle.fp_session.specs.Reply.{reply_of_code}
use Rattle.fp_conversations.specs.Answers.{reply}
use Rattle.fp_conversations.proofs.AnswerLemmas.{said-wanting, said-whole}
use Rattle.fp_conversations.proofs.answer.send_refusal.Goals as goal

pub returns-in-Ok-clause-sent : goal.returns-in-Ok-clause-sent
returns-in-Ok-clause-sent g c =
    let before = g.O.Write.contents c.args.w.now.inner in let held = g.O.Write.contents c.send.new.self.inner in
    let text : c.deref.result.now ≡ c.in-Ok.line.items = c.deref.ensures.value in
    on_ok_weaker c.send.result (λ (sent : Appends before held c.deref.result.now). said-whole
    (reply (reply_of_code c.args.reply.now)) before held
    (subst (λ (t : List ℕ). Appends before held t) (text ∙ c.in-Ok.ensures) sent)) c.send.ensures.bytes

pub returns-in-Err-clause-sent : goal.returns-in-Err-clause-sent
returns-in-Err-clause-sent g c =
    on_ok_weaker c.send_text.result
    (said-wanting (reply_of_code c.args.reply.now) (g.O.Write.contents c.args.w.now.inner)
    (g.O.Write.contents c.send_text.new.w.inner) c.requires) c.send_text.ensures.sent
