use Rattle.fp_edit.proofs.Runs.{after_edits-log_of}
use Rattle.fp_edit.proofs.laws.refusals_leave_no_trace.Goals as goal

pub returns : goal.returns
returns c = after_edits-log_of
