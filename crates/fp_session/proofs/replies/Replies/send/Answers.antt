use Rattle.std.proofs.Common.{List, ℕ, sym, subst}
use Rattle.std.specs.Io.KnownBytes.{Appends}
use Rattle.fp_base.proofs.Known.{Appends-nil}
use Rattle.fp_session.proofs.replies.Replies.send.Goals as goal

pub returns-then-is_sent-clause-sent : goal.returns-then-is_sent-clause-sent
returns-then-is_sent-clause-sent g c =
    let held = g.W.Write.contents c.args.w.now.inner in
    subst (λ (l : List ℕ). Appends held held l) (sym (c.is_sent.ensures.0 c.if-is_sent.true)) (Appends-nil held)
