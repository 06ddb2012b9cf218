use Rattle.std.proofs.Common.{◌≡◌}
use Rattle.std.specs.Option.{option_copied}
use Rattle.fp_group_commit.specs.Tokens.{front_set}
use Rattle.fp_ofrep.specs.Reply.{reply}
use Rattle.fp_ofrep.specs.Seen.{body_seen, response_seen}
use Rattle.fp_http.proofs.Fronts.{over_some}
use Rattle.fp_http.proofs.published.KeepingEvaluator.answer.Goals as goal

pub returns-clause-replies : goal.returns-clause-replies
returns-clause-replies c =
    over_some _ c.enter.new.self.known
    (λ front r. response_seen r ≡ reply (front_set front) c.args.method.now c.args.target.now
    (option_copied c.args.if_none_match) (body_seen c.args.body) c.args.now)
    c.reply-reply.ensures.over
