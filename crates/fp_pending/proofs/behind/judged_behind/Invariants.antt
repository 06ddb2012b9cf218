use Rattle.fp_edit.specs.Lent.{lent_parts}
use Rattle.fp_pending.specs.Following.{set_behind}
use Rattle.fp_pending.proofs.Tallying.{Underway}
use Rattle.fp_pending.proofs.behind.judged_behind.Given as goal

abbrev pub invariant-loop-i : goal.invariant-loop-i
invariant-loop-i l =
    Underway (set_behind l.set l.ahead l.before) (lent_parts l.parts) l.i l.sums.count l.sums.size
