use Rattle.fp_news.proofs.Frames.{is_left}
use Rattle.fp_news.proofs.outgoing.Outgoing.is_sending.Goals as goal

pub returns : goal.returns
returns g c = rw c.is_some.ensures (is_left c.args.self.now.sending)
