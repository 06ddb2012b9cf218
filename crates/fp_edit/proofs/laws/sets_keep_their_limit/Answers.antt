use Rattle.fp_edit.proofs.Runs.{within-after_edits}
use Rattle.fp_edit.proofs.laws.sets_keep_their_limit.Goals as goal

pub returns : goal.returns
returns c = within-after_edits
