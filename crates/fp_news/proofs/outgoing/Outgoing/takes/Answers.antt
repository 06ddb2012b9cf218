use Rattle.std.proofs.Common.{rules}
use Rattle.fp_news.proofs.Frames.{is_not_left}
use Rattle.fp_news.proofs.outgoing.Outgoing.takes.Goals as goal

pub returns-else-is_none : goal.returns-else-is_none
returns-else-is_none g c =
    let none = is_not_left c.args.self.now.sending in
    let was = c.is_none.ensures in
    search (rules, none, was)
