use Rattle.std.proofs.Common.{◌≡◌, length}
use Rattle.fp_edit.specs.Following.{changes_of}
use Rattle.fp_pending.specs.Following.{Follows}
use Rattle.fp_edit.specs.Log.{after_all}
use Rattle.fp_pending.proofs.ahead.catch_up.Given as goal

abbrev pub invariant-loop-edit : goal.invariant-loop-edit
invariant-loop-edit l = (after_all l.set (changes_of l.ahead.items) ≡ after_all l.initial.set
    (changes_of l.initial.ahead.items)) × Follows l.set (changes_of l.ahead.items)

abbrev pub decreases-loop-edit : goal.decreases-loop-edit
decreases-loop-edit l = length l.ahead.items
