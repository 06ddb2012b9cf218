use Rattle.fp_targeting.proofs.Tables.{items-no_pair}
use Rattle.fp_targeting.proofs.pairs.pair_of.Goals as goal

pub returns-in-len3-up : goal.returns-in-len3-up
returns-in-len3-up c = items-no_pair c.args.items.now c.in-len3-up.len_at_least
