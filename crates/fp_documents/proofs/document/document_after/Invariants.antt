use Rattle.std.specs.Prelude.{List, ℕ}
use Rattle.fp_documents.specs.Entries.{entries_of}
use Rattle.fp_documents.specs.Outline.{Outlines, HasAsMany}
use Rattle.fp_documents.specs.declared.flags.Flag.{Flag}
use Rattle.fp_documents.proofs.Patched.{Underway}
use Rattle.fp_documents.proofs.document.document_after.Given as goal

-- the flags that are left are still to be written
abbrev pub invariant-loop-key : goal.invariant-loop-key
invariant-loop-key l =
    (es : List (List ℕ × Flag))
    × Outlines l.before es
    × HasAsMany l.before.revision es (entries_of l.flags.entries)
    × Underway l.before.revision l.before.text.items l.left l.from l.at l.later l.text.items l.lengths.items
    (entries_of l.key-iterator) es (entries_of l.flags.entries)
