use Rattle.std.proofs.Common.{take}
use Rattle.fp_edit.specs.Flags.{State}
use Rattle.fp_edit.specs.Following.{changes_of}
use Rattle.fp_pending.specs.Following.{Follows}
use Rattle.fp_pending.specs.Tallies.{IsTallyAbove}
use Rattle.fp_edit.specs.Log.{after_all}
use Rattle.fp_pending.proofs.behind.most_behind.Given as goal

-- the edits so far are accepted, and the numbers are no less than those of the set that they lead to
abbrev pub invariant-loop-edit : goal.invariant-loop-edit
invariant-loop-edit l = (s : State) → IsTallyAbove l.fn.most s → Follows s (changes_of (take l.edit-index l.edits)) ×
    IsTallyAbove l.now (after_all s (changes_of (take l.edit-index l.edits)))
