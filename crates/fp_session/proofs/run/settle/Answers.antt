use Rattle.std.proofs.Common.{length, sym, subst}
use Rattle.fp_session.specs.Progress.{IsBrokenWith}
use Rattle.fp_session.specs.declared.fault.ApplyFault.{ApplyFault}
use Rattle.fp_session.proofs.Endings.{broken-sent, further}
use Rattle.fp_session.proofs.run.settle.Goals as goal

pub returns-in-Ok-clause-settled : goal.returns-in-Ok-clause-settled
returns-in-Ok-clause-settled g c = λ first asked before most few i.
    further g.E.EditStore first c.seal.new.edits asked i.sent most before (g.W.Write.contents c.send.new.w.inner)
    c.args.w.now.failures c.send.new.w.failures c.seal.new.self c.send.new.replies c.send.result
    (c.in-Ok.ensures.asked first asked i.sent i.at) (c.send.ensures.sent i.sent before i.appended) c.send.ensures.failed

pub returns-in-Err-clause-settled : goal.returns-in-Err-clause-settled
returns-in-Err-clause-settled g c = λ first asked before most few i.
    let now = c.seal.new.edits in let w = g.W.Write.contents c.give_up.new.w.inner in
    let f0 = c.args.w.now.failures in let f = c.give_up.new.w.failures in
    subst (λ (e : ApplyFault). IsBrokenWith g.E.EditStore most first now asked before w f0 f e) (sym c.give_up.ensures.same)
    (broken-sent g.E.EditStore first now asked i.sent (length c.args.replies.now.waiting.items) most before
    (g.W.Write.contents c.args.w.now.inner) w f0 f c.seal.new.self c.in-Err.fault few
    (c.in-Err.ensures.asked first asked i.sent i.at) i.appended c.give_up.ensures.sent)
