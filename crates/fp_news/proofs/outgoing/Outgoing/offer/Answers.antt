use Rattle.std.proofs.Common.{rules, ◌≡◌, ◌<◌, ◌^◌, subst}
use Rattle.fp_stream.specs.Heads.{IsNewer}
use Rattle.fp_news.proofs.Frames.{tells_begun}
use Rattle.std.specs.Arc.{arc_value}
use Rattle.fp_news.proofs.outgoing.Outgoing.offer.Goals as goal

pub returns-clause-told : goal.returns-clause-told
returns-clause-told g c began hello went begun t =
    let s = g.N.News.shows (arc_value c.args.news) in
    let may = c.takes.ensures.0 (search rules) in
    let is : c.revision-revision.result ≡ s.revision = search rules in
    let fits : c.revision-revision.result < 2 ^ 64 = search rules in
    tells_begun hello _ _ went begun s may.0 (search rules) (search rules)
    (record {
      fits = subst (λ n. n < 2 ^ 64) is fits;
      short = c.begin.ensures.short;
      newer = subst (IsNewer c.args.self.now.has) is may.1;
    }) t
