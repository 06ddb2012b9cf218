use Rattle.std.proofs.Common.{◌≡◌, drop}
use Rattle.fp_edit.specs.Changes.{are_distinct}
use Rattle.fp_edit.specs.Parts.{keys_of}
use Rattle.fp_edit.proofs.changes.differ.Given as goal

-- what is left decides
abbrev pub invariant-loop-i : goal.invariant-loop-i
invariant-loop-i l = are_distinct (keys_of l.changes) ≡ are_distinct (keys_of (drop l.i l.changes))
