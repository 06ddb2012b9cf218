use Rattle.fp_disk.proofs.Crashing.{outcome_held}
use Rattle.fp_disk.proofs.memory.MemoryDisk.crash.Goals as goal

pub returns-clause-outcome : goal.returns-clause-outcome
returns-clause-outcome c = outcome_held _ _ _ c.args.self _ c.in_ok-left_by.ensures c.holding.result
    c.holding.ensures.fresh c.holding.ensures.honest
