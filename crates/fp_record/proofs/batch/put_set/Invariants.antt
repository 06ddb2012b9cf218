use Rattle.std.proofs.Common.{◌≡◌, ◌++◌, ◌∷◌, [], length, map, take, drop}
use Rattle.std.specs.Int.{w16, to_be_bytes}
use Rattle.std.specs.List.{flat_map, AllByRecursion}
use Rattle.fp_edit.specs.Parts.{parts_of, proposed_of}
use Rattle.fp_record.specs.WellFormed.{IsPart}
use Rattle.fp_record.specs.Encoding.{encoding_of_part}
use Rattle.fp_record.specs.declared.batch.TheConstants.{SET_KIND}
use Rattle.fp_record.proofs.batch.put_set.Given as goal

abbrev pub invariant-loop-change : goal.invariant-loop-change
invariant-loop-change l =
    (l.out.items ≡ ((l.fn.out.items ++ SET_KIND ∷ []) ++ to_be_bytes w16 (length l.changes)) ++ flat_map
    encoding_of_part (parts_of (map proposed_of (take l.change-index l.changes))))
    × (AllByRecursion IsPart (parts_of (map proposed_of (drop l.change-index l.changes))) →
    AllByRecursion IsPart (parts_of (map proposed_of l.changes)))
