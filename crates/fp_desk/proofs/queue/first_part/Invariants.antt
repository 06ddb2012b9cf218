use Rattle.std.proofs.Common.{◌≡◌, ◌⊎◌, ◌≤◌, ◌+◌, ◌*◌, ◌-◌, length, take}
use Rattle.fp_edit.specs.Following.{changes_of}
use Rattle.fp_edit.specs.declared.changes.TheConstants.{LONGEST_EDIT}
use Rattle.fp_record.specs.declared.batch.TheConstants.{MOST_EDITS}
use Rattle.fp_record.specs.Encoding.{batch_len}
use Rattle.fp_desk.proofs.queue.first_part.Given as goal

abbrev pub invariant-loop-n : goal.invariant-loop-n
invariant-loop-n l = (1 ≤ l.n) × (l.n ≤ length l.waiting.items) × (l.n ≤ MOST_EDITS) × (l.sum ≤ 10 + LONGEST_EDIT * l.n)
    × (l.sum ≡ batch_len (record { first = 0; changes = changes_of (take l.n l.waiting.items) })) × ((l.n ≡ 1) ⊎ (l.sum ≤ l.most))

abbrev pub decreases-loop-n : goal.decreases-loop-n
decreases-loop-n l = MOST_EDITS - l.n
