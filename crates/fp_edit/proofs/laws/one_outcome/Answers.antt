use Rattle.fp_edit.proofs.Runs.{has_one_outcome}
use Rattle.fp_edit.proofs.laws.one_outcome.Goals as goal

pub returns : goal.returns
returns c = has_one_outcome
