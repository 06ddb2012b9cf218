use Rattle.std.proofs.Common.{rules}
use Rattle.fp_session.specs.Reply.{reply_of_code}
use Rattle.fp_session.proofs.RunLemmas.{told_up_to-more}
use Rattle.fp_session.proofs.replies.Replies.telling.Goals as goal

pub loop-i-preserved : goal.loop-i-preserved
loop-i-preserved c =
    let inv = c.loop-i.invariant in let a = c.in_ok-add.ensures in record {
      within = search rules;
      told = told_up_to-more c.args.is_kept c.args.self.now.waiting.items c.loop-i.telling c.add.new.self c.loop-i.i
          c.index.result.now (reply_of_code c.as_told.result.now) (search rules) c.index.ensures c.as_told.ensures
          a.text a.told inv.told;
    }
