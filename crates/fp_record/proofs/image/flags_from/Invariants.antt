use Rattle.std.proofs.Common.{◌≡◌, ◌≤◌, [], Ok, length}
use Rattle.fp_documents.specs.Entries.{entries_of}
use Rattle.fp_record.specs.Reading.{flag_at, many_from}
use Rattle.fp_record.proofs.image.flags_from.Given as goal

-- the first of them were read
abbrev pub invariant-loop : goal.invariant-loop
invariant-loop l =
    (many_from (flag_at l.newest l.bytes) l.counter ([], l.at) ≡ Ok (entries_of l.flags.items, (l.before, l.place)))
    × (length l.flags.items ≡ l.counter)
    × (l.place ≤ length l.bytes)
