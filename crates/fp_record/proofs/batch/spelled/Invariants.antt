use Rattle.std.proofs.Common.{◌≡◌, ◌++◌, length, take, drop}
use Rattle.std.specs.Int.{w16, w64, to_be_bytes}
use Rattle.std.specs.List.{flat_map, AllByRecursion}
use Rattle.fp_edit.specs.Following.{changes_of}
use Rattle.fp_record.specs.WellFormed.{IsChange}
use Rattle.fp_record.specs.Encoding.{encoding_of_change}
use Rattle.fp_record.proofs.batch.spelled.Given as goal

abbrev pub invariant-loop-edit : goal.invariant-loop-edit
invariant-loop-edit l =
    (l.out.items ≡ (to_be_bytes w64 l.first ++ to_be_bytes w16 (length l.edits)) ++ flat_map encoding_of_change
    (changes_of (take l.edit-index l.edits)))
    × (AllByRecursion IsChange (changes_of (drop l.edit-index l.edits)) → AllByRecursion IsChange (changes_of l.edits))
