use Rattle.std.proofs.Common.{ap, subst}
use Rattle.std.specs.Arc.{arc_value}
use Rattle.fp_news.specs.Newest.{had}
use Rattle.fp_loop.proofs.Courses.{runs_informed}
use Rattle.fp_loop.proofs.turning.Loop.show.Goals as goal

pub returns-clause-on : goal.returns-clause-on
returns-clause-on g c =
    let news = c.args.news in
    runs_informed g.S.Service.answers g.S.Informed.informs _ _ (arc_value news.shown)
    (subst (λ n. g.S.Informed.informs c.args.self.now.service.service n c.inform.new.self) news.same
    c.inform.ensures)
    (c.take.ensures.taken.0 c.if-not-take.false)
    (ap (had (λ n. g.N.News.shows (arc_value n))) (c.take.ensures.new c.if-not-take.false))
