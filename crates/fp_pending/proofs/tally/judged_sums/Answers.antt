use Rattle.std.proofs.Common.{arith}
use Rattle.fp_pending.proofs.Bounding.{passes_below}
use Rattle.fp_pending.proofs.tally.judged_sums.Goals as goal

pub returns-clause-most : goal.returns-clause-most
returns-clause-most c = λ bound s x b expected few short.
    passes_below b x c.args.sums.count c.args.sums.size expected (omega arith) few short (grind arith) (grind arith)
