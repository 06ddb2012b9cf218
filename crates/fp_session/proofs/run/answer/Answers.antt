use Rattle.std.proofs.Common.{◌∷◌, [], ◌++◌, sym, subst, arith}
use Rattle.fp_session.specs.Progress.{IsBrokenWith}
use Rattle.fp_session.specs.Sources.{most_at_once}
use Rattle.fp_session.specs.declared.fault.ApplyFault.{ApplyFault}
use Rattle.fp_session.proofs.Endings.{broken-sent, further}
use Rattle.fp_session.proofs.run.answer.Goals as goal

pub returns-in-Ok-clause-answered : goal.returns-in-Ok-clause-answered
returns-in-Ok-clause-answered g c = λ first asked x before asks few i.
    further g.E.EditStore first c.put.new.edits (asked ++ x ∷ []) i.sent (most_at_once c.args.batching) before
    (g.W.Write.contents c.send_long.new.w.inner) c.args.w.now.failures c.send_long.new.w.failures
    c.put.new.replies c.send_long.new.replies c.send_long.result
    (c.in-Ok.ensures.asked first asked i.sent x asks few i.at) (c.send_long.ensures.sent i.sent before i.appended)
    c.send_long.ensures.failed

pub returns-in-Err-clause-answered : goal.returns-in-Err-clause-answered
returns-in-Err-clause-answered g c = λ first asked x before asks few i.
    let now = c.put.new.edits in let w = g.W.Write.contents c.give_up.new.w.inner in let most = most_at_once c.args.batching in
    let f0 = c.args.w.now.failures in let f = c.give_up.new.w.failures in
    subst (λ (e : ApplyFault). IsBrokenWith g.E.EditStore most first now (asked ++ x ∷ []) before w f0 f e) (sym c.give_up.ensures.same)
    (broken-sent g.E.EditStore first now (asked ++ x ∷ []) i.sent most most before
    (g.W.Write.contents c.args.w.now.inner) w f0 f c.put.new.replies c.in-Err.fault (omega arith)
    (c.in-Err.ensures.asked first asked i.sent x asks few i.at) i.appended c.give_up.ensures.sent)
