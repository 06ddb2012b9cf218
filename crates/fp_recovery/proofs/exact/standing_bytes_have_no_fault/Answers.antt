use Rattle.fp_recovery.proofs.OneFault.{standing_has_no_fault}
use Rattle.fp_recovery.proofs.exact.standing_bytes_have_no_fault.Goals as goal

pub returns : goal.returns
returns c = standing_has_no_fault
