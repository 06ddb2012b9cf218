use Rattle.std.proofs.Common.{◌≡◌, ◌+◌, drop, map, take}
use Rattle.std.specs.List.{sum_by}
use Rattle.fp_edit.specs.Changes.{part_len, set_len}
use Rattle.fp_edit.specs.Parts.{parts_of, proposed_of}
use Rattle.fp_recovery.proofs.batches.len_before.Given as goal

-- what was counted and what is left are all in front of the place
abbrev pub invariant-loop-change : goal.invariant-loop-change
invariant-loop-change l = l.len + sum_by part_len
    (parts_of (map proposed_of (drop l.change-index (take l.at l.changes)))) ≡ set_len
    (take l.at (parts_of (map proposed_of l.changes)))
