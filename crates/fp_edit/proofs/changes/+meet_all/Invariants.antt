use Rattle.std.proofs.Common.{length}
use Rattle.fp_edit.proofs.changes.+meet_all.Given as goal

abbrev pub decreases-meet_all : goal.decreases-meet_all
decreases-meet_all l = length l.changes.now
