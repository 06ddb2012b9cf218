use Rattle.std.proofs.Common.{take}
use Rattle.std.specs.List.{AllByRecursion}
use Rattle.fp_edit.specs.Following.{changes_of}
use Rattle.fp_recovery.specs.Stands.{IsAllowed}
use Rattle.fp_group_commit.proofs.draw.has_place.Given as goal

-- those so far have a place
abbrev pub invariant-loop-edit : goal.invariant-loop-edit
invariant-loop-edit l = AllByRecursion (IsAllowed l.version) (changes_of (take l.edit-index l.edit-items))
