use Rattle.std.proofs.Common.{◌≡◌, ◌++◌}
use Rattle.fp_documents.specs.Entries.{entries_of}
use Rattle.fp_documents.proofs.flags.copy_of.Given as goal

-- what is copied, and what is left, are all
abbrev pub invariant-loop-key : goal.invariant-loop-key
invariant-loop-key l = entries_of l.pairs.items ++ entries_of l.key-iterator ≡ entries_of l.flags.entries
