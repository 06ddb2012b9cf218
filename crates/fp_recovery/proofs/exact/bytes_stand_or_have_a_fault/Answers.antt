use Rattle.fp_recovery.proofs.Decided.{bytes_decided}
use Rattle.fp_recovery.proofs.exact.bytes_stand_or_have_a_fault.Goals as goal

pub returns : goal.returns
returns c = bytes_decided
