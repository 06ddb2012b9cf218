use Rattle.std.proofs.Common.{◌≡◌, ◌+◌, drop}
use Rattle.fp_documents.specs.Entries.{entries_of}
use Rattle.fp_documents.specs.Flags.{total_cost}
use Rattle.fp_documents.specs.declared.flags.TheConstants.{IMAGE_HEAD}
use Rattle.fp_edit.proofs.sums.size_of_flags.Given as goal

-- what is counted, and what the flags take that are left, are all
abbrev pub invariant-loop-key : goal.invariant-loop-key
invariant-loop-key l =
    l.size + total_cost (entries_of (drop l.key-index l.flags)) ≡ IMAGE_HEAD + total_cost (entries_of l.flags)
