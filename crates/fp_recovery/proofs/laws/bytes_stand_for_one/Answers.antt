use Rattle.fp_recovery.proofs.One.{stands_one}
use Rattle.fp_recovery.proofs.laws.bytes_stand_for_one.Goals as goal

pub returns : goal.returns
returns c = stands_one
