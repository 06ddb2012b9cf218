use Rattle.std.proofs.Common.{◌≡◌, ◌≤◌, length, vec_len, vec_capacity}
use Rattle.fp_edit.proofs.Lines.{IsReading}
use Rattle.fp_edit.proofs.line.changes_in.Given as goal

abbrev pub invariant-loop-at : goal.invariant-loop-at
invariant-loop-at l =
    IsReading l.items l.at l.changes.items × (vec_len l.changes ≡ l.at) × (length l.items ≤ vec_capacity l.changes)
