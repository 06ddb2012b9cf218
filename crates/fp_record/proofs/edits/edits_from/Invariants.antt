use Rattle.std.proofs.Common.{◌≡◌, ◌≤◌, Ok, length}
use Rattle.fp_edit.specs.Following.{changes_of}
use Rattle.fp_record.specs.Reading.{changes_at}
use Rattle.fp_record.proofs.edits.edits_from.Given as goal

-- the first of them were read
abbrev pub invariant-loop : goal.invariant-loop
invariant-loop l =
    (changes_at l.counter l.bytes l.at ≡ Ok (changes_of l.edits.items, l.place))
    × (length l.edits.items ≡ l.counter)
    × (l.place ≤ length l.bytes)
