use Rattle.fp_recovery.proofs.Read.{wrong_image}
use Rattle.fp_recovery.proofs.images.read_image.Goals as goal

pub returns-in-Err-clause-fault : goal.returns-in-Err-clause-fault
returns-in-Err-clause-fault c =
    rw c.fault_of.ensures (wrong_image c.args.base c.args.limit c.args.bytes.now c.in-Err.fault c.in-Err.ensures.read)
