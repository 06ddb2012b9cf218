use Rattle.fp_recovery.proofs.OneFault.{one_fault}
use Rattle.fp_recovery.proofs.exact.bytes_have_one_fault.Goals as goal

pub returns : goal.returns
returns c = one_fault
