use Rattle.std.proofs.Common.{length}
use Rattle.fp_edit.proofs.walks.+make_puts.Given as goal

abbrev pub decreases-make_puts : goal.decreases-make_puts
decreases-make_puts l = length l.changes.now
