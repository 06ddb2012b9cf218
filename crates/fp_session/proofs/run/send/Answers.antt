use Rattle.std.proofs.Common.{◌++◌, ℕ, List, ap, ◌∙◌, append-nil}
use Rattle.fp_base.proofs.Known.{Appends-more}
use Rattle.fp_session.proofs.run.send.Goals as goal

pub returns-clause-sent : goal.returns-clause-sent
returns-clause-sent g c = λ sent before was.
    let r = c.args.replies.now in record {
      all = sent ++ r.text.items;
      appended = Appends-more before (g.W.Write.contents c.args.w.now.inner) (g.W.Write.contents c.send.new.w.inner)
          sent r.text.items was c.in_ok-send.ensures.sent;
      same = ap (λ (l : List ℕ). (sent ++ r.text.items) ++ l) c.in_ok-send.ensures.none ∙ append-nil (sent ++ r.text.items);
      waiting = c.send.ensures.waiting;
      told = c.send.ensures.told;
    }
