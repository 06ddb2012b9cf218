use Rattle.std.proofs.Common.{◌≡◌, ◌≤◌, ◌+◌, ◌*◌, ◌-◌, length, take}
use Rattle.fp_edit.specs.Following.{change_of, changes_of}
use Rattle.fp_record.specs.Encoding.{encoding_of_change}
use Rattle.fp_edit.specs.declared.changes.TheConstants.{LONGEST_EDIT}
use Rattle.fp_record.specs.Encoding.{batch_len}
use Rattle.fp_desk.proofs.queue.fits_behind.Given as goal

abbrev pub invariant-loop-i : goal.invariant-loop-i
invariant-loop-i l = (l.i ≤ length l.waiting.items) × (l.sum ≤ 10 + LONGEST_EDIT * (l.i + 1))
    × (l.sum ≡ batch_len (record { first = 0; changes = changes_of (take l.i l.waiting.items) }) + length
    (encoding_of_change (change_of l.edit)))

abbrev pub decreases-loop-i : goal.decreases-loop-i
decreases-loop-i l = length l.waiting.items - l.i
