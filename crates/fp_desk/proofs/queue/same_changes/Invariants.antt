use Rattle.std.proofs.Common.{◌≡◌, ◌≤◌, ◌-◌, length, take}
use Rattle.fp_edit.specs.Following.{changes_of}
use Rattle.fp_desk.proofs.queue.same_changes.Given as goal

abbrev pub invariant-loop-i : goal.invariant-loop-i
invariant-loop-i l = (l.i ≤ length l.edits) × (length l.queue.items ≡ length l.edits) ×
    (changes_of (take l.i l.queue.items) ≡ changes_of (take l.i l.edits))

abbrev pub decreases-loop-i : goal.decreases-loop-i
decreases-loop-i l = length l.edits - l.i
