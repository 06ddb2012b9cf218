use Rattle.std.proofs.Common.{OnOk, sym, subst}
use Rattle.std.proofs.lemmas.Result.{on_ok_weaker}
use Rattle.fp_session.specs.Reply as flags
use Rattle.fp_session.specs.Reply.{reply_of_code}
use Rattle.fp_session.specs.declared.reply.Reply as code
use Rattle.fp_conversations.specs.Answers.{IsSaid, reply}
use Rattle.fp_conversations.proofs.AnswerLemmas.{said-whole}
use Rattle.fp_conversations.proofs.answer.send_reply.Goals as goal

pub returns-in-Revision-clause-sent : goal.returns-in-Revision-clause-sent
returns-in-Revision-clause-sent g c =
    let before = g.O.Write.contents c.args.w.now.inner in let held = g.O.Write.contents c.say.new.self.inner in
    subst (λ (r : code.Reply). OnOk c.say.result (IsSaid (reply (reply_of_code r)) before held)) (sym c.in-Revision.is)
    (on_ok_weaker c.say.result (said-whole (reply (flags.revision c.in-Revision.revision)) before held) c.say.ensures.text)

pub returns-in-StoreFailed-clause-sent : goal.returns-in-StoreFailed-clause-sent
returns-in-StoreFailed-clause-sent g c =
    let before = g.O.Write.contents c.args.w.now.inner in let held = g.O.Write.contents c.send_text.new.w.inner in
    subst (λ (r : code.Reply). OnOk c.send_text.result (IsSaid (reply (reply_of_code r)) before held)) (sym c.in-StoreFailed.is)
    (on_ok_weaker c.send_text.result (said-whole (reply flags.store_failed) before held) c.send_text.ensures.sent)
