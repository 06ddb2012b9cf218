use Rattle.std.proofs.Common.{◌≡◌, ◌<◌, ◌++◌, length, take, drop}
use Rattle.std.specs.Int.{w32, to_be_bytes}
use Rattle.std.specs.List.{flat_map, AllByRecursion}
use Rattle.fp_documents.specs.Entries.{entries_of}
use Rattle.fp_record.specs.WellFormed.{IsFlag}
use Rattle.fp_record.specs.Encoding.{encoding_of_flag}
use Rattle.fp_record.proofs.image.spelled.Given as goal

abbrev pub invariant-loop-flag : goal.invariant-loop-flag
invariant-loop-flag l =
    (l.out.items ≡ to_be_bytes w32 (length l.flags) ++ flat_map encoding_of_flag (entries_of (take l.flag-index l.flags)))
    × AllByRecursion (λ f. 0 < f.1.changed) (entries_of (drop l.flag-index l.flags))
    × (AllByRecursion IsFlag (entries_of (drop l.flag-index l.flags)) → AllByRecursion IsFlag (entries_of l.flags))
