use Rattle.fp_news.proofs.Telling.{sends}
use Rattle.fp_loop.proofs.subscriber.sent_once.Goals as goal

pub returns-in-Ok-clause-tells : goal.returns-in-Ok-clause-tells
returns-in-Ok-clause-tells g c = sends c.args.outgoing.now c.sent.new.self _ c.sent.ensures.told
