use Rattle.std.proofs.Common.{◌≡◌, ◌+◌, drop, map}
use Rattle.std.specs.List.{sum_by}
use Rattle.fp_edit.specs.Changes.{part_len, set_len}
use Rattle.fp_edit.specs.Parts.{parts_of, proposed_of}
use Rattle.fp_edit.specs.declared.changes.TheConstants.{LONGEST_EDIT}
use Rattle.fp_edit.proofs.changes.is_short.Given as goal

-- what has been counted and what is left to count are all
abbrev pub invariant-loop-change : goal.invariant-loop-change
invariant-loop-change l = l.left + set_len (parts_of (map proposed_of l.changes)) ≡ LONGEST_EDIT + sum_by part_len
    (parts_of (map proposed_of (drop l.change-index l.changes)))
