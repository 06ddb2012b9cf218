use Rattle.std.specs.Arc.{arc_value}
use Rattle.fp_news.proofs.Telling.{offers}
use Rattle.fp_loop.proofs.subscriber.offered.Goals as goal

pub returns-clause-tells : goal.returns-clause-tells
returns-clause-tells g c =
    offers c.offer.result c.args.outgoing.now c.offer.new.self (g.N.News.shows (arc_value c.in-Ok.news))
    c.offer.ensures.told c.offer.ensures.kept
