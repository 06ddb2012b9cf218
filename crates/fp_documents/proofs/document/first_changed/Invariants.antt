use Rattle.std.specs.Prelude.{◌≤◌, List, ℕ}
use Rattle.fp_documents.specs.Entries.{entries_of}
use Rattle.fp_documents.specs.Outline.{Outlines, HasAsMany, changed_after}
use Rattle.fp_documents.specs.declared.flags.Flag.{Flag}
use Rattle.fp_documents.proofs.Patched.{Standing}
use Rattle.fp_documents.proofs.document.first_changed.Given as goal

-- the flags that are left are still to have their parts, and one of them at most was changed
abbrev pub invariant-loop-key : goal.invariant-loop-key
invariant-loop-key l =
    (es : List (List ℕ × Flag))
    × Outlines l.document es
    × HasAsMany l.document.revision es (entries_of l.flags.entries)
    × Standing l.document.revision l.document.text.items l.document.lengths.items l.at l.index l.later
    (entries_of l.key-iterator) es (entries_of l.flags.entries)
    × (changed_after l.document.revision (entries_of l.key-iterator) ≤ 1)
