use Rattle.std.specs.FinMap as map
use Rattle.fp_documents.specs.Entries.{entries_of}
use Rattle.fp_ofrep.specs.Kept.{AreTimeless}
use Rattle.fp_ofrep.proofs.keeping.is_timeless.Given as goal

-- what is left decides for all
abbrev pub invariant-loop-flag : goal.invariant-loop-flag
invariant-loop-flag l = AreTimeless (entries_of l.flag-iterator) → AreTimeless (map.entries l.set.flags)
