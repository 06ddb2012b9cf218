use Rattle.std.proofs.Common.{◌≡◌, ◌≤◌, ◌+◌, ◌*◌, false}
use Rattle.std.specs.FinMap as fin
use Rattle.fp_documents.specs.Outline.{rest_text}
use Rattle.fp_edit.specs.Flags.{State, size}
use Rattle.fp_shown.specs.Sets.{IsLawful}
use Rattle.fp_shown.proofs.Standing.{Standing}
use Rattle.fp_shown.proofs.reading.put_flags.Given as goal

-- each flag that was put counts as one, and whichever set the text is of has its first flags here
abbrev pub invariant-loop : goal.invariant-loop
invariant-loop l =
    (fin.len l.set.flags ≤ l.counter)
    × (size l.set.flags ≤ 4 + l.counter * 16654)
    × (l.set.revision ≡ l.initial.set.revision)
    × (l.set.limit ≡ l.initial.set.limit)
    × ((s : State) → IsLawful s → s.revision ≡ l.initial.set.revision
    → l.text ≡ rest_text false (fin.entries s.flags)
    → Standing s l.set.flags l.later l.rest l.counter)
