use Rattle.fp_recovery.proofs.Read.{wrong_batch}
use Rattle.fp_recovery.proofs.batches.take_batch.Goals as goal

pub returns-in-Err-clause-fault : goal.returns-in-Err-clause-fault
returns-in-Err-clause-fault c =
    rw c.fault_of.ensures (wrong_batch c.args.version c.args.set.now c.args.bytes.now c.in-Err.fault
    c.in-Err.ensures.read)
