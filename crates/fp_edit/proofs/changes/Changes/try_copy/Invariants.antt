use Rattle.std.proofs.Common.{◌≡◌, map, take}
use Rattle.fp_edit.specs.Parts.{proposed_of}
use Rattle.fp_edit.proofs.changes.Changes.try_copy.Given as goal

abbrev pub invariant-loop-change : goal.invariant-loop-change
invariant-loop-change l = map proposed_of l.changes.items ≡ map proposed_of (take l.change-index l.change-items)
