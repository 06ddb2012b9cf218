use Rattle.fp_conversations.proofs.EditingLemmas.{input-handed, input-served}
use Rattle.fp_conversations.proofs.editor.editor_loop.Goals as goal

-- nothing was asked yet
pub returns-in-Err-clause-handed : goal.returns-in-Err-clause-handed
returns-in-Err-clause-handed g c = input-handed (g.I.Read.remaining c.args.r.now.inner) c.args.editing.now

pub returns-in-Err-clause-broken : goal.returns-in-Err-clause-broken
returns-in-Err-clause-broken g c = λ well.
    input-served (g.I.Read.remaining c.args.r.now.inner) g.K.Naming.store c.args.editing.now (g.O.Write.contents c.args.w.now.inner)

pub returns-then-is_request-clause-handed : goal.returns-then-is_request-clause-handed
returns-then-is_request-clause-handed g c = input-handed (g.I.Read.remaining c.args.r.now.inner) c.args.editing.now
