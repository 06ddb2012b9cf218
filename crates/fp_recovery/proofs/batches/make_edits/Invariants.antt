use Rattle.std.proofs.Common.{◌≡◌, ◌-◌, ◌≤◌, length}
use Rattle.fp_recovery.specs.Reading.{edits_onto}
use Rattle.fp_recovery.proofs.batches.make_edits.Given as goal

abbrev pub invariant-loop : goal.invariant-loop
invariant-loop l =
    (edits_onto l.version l.bytes (l.count - l.counter) (l.set, l.place) ≡ edits_onto l.version l.bytes l.count (l.initial.set, l.at))
    × (l.place ≤ length l.bytes)
