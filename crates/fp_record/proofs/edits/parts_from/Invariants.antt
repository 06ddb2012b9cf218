use Rattle.std.proofs.Common.{◌≡◌, ◌≤◌, [], Ok, length, map}
use Rattle.fp_edit.specs.Keys.{AreMet}
use Rattle.fp_edit.specs.Parts.{free, keys_of, parts_of, proposed_of}
use Rattle.fp_record.specs.Reading.{many_from, next_part}
use Rattle.fp_record.proofs.edits.parts_from.Given as goal

-- the first of them were read
abbrev pub invariant-loop : goal.invariant-loop
invariant-loop l = record {
  read : many_from (next_part l.bytes) l.counter ([], l.at) ≡ Ok
      (parts_of (map proposed_of l.parts.items), (keys_of l.parts.items, l.place));
  free : map proposed_of l.parts.items ≡ map free (parts_of (map proposed_of l.parts.items));
  met : AreMet l.met (keys_of l.parts.items);
  within : l.place ≤ length l.bytes;
}
