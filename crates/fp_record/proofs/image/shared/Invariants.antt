use Rattle.std.proofs.Common.{◌≡◌, ◌++◌}
use Rattle.std.specs.FinMap.{entries}
use Rattle.fp_documents.specs.Entries.{entries_of}
use Rattle.fp_record.proofs.image.shared.Given as goal

abbrev pub invariant-loop-key : goal.invariant-loop-key
invariant-loop-key l = entries_of l.flags.items ++ entries_of l.key-iterator ≡ entries l.set.flags
