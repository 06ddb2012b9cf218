use Rattle.fp_recovery.proofs.FaultPlaces.{faults_within}
use Rattle.fp_recovery.proofs.exact.faults_lie_within.Goals as goal

pub returns : goal.returns
returns c = faults_within
