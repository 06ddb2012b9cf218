use Rattle.std.proofs.Common.{◌≡◌, ◌++◌, drop, map, take}
use Rattle.fp_edit.specs.Parts.{free, parts_of, proposed_of}
use Rattle.fp_edit.proofs.changes.Changes.unconditional.Given as goal

-- those that were passed expect nothing
abbrev pub invariant-loop-change : goal.invariant-loop-change
invariant-loop-change l = map proposed_of l.change-items ≡ map free (parts_of (take l.change-index l.fn.self)) ++
    drop l.change-index l.fn.self
