use Rattle.std.proofs.Common.{◌≤◌, ◌+◌, ◌*◌, ◌^◌, take}
use Rattle.std.specs.FinMap as fin
use Rattle.fp_edit.specs.Admits.{parts_after}
use Rattle.fp_edit.specs.Flags.{State, size}
use Rattle.fp_edit.specs.Lent.{lent_parts}
use Rattle.fp_edit.proofs.sums.most_with.Given as goal

-- no less than the numbers behind the parts that were passed
abbrev pub invariant-loop-i : goal.invariant-loop-i
invariant-loop-i l = record {
  above : (s : State) → fin.len s.flags ≤ l.fn.sums.count → size s.flags ≤ l.fn.sums.size
      → (fin.len (parts_after (s.revision + 1) s.flags (take l.i (lent_parts l.parts))) ≤ l.most.count)
      × (size (parts_after (s.revision + 1) s.flags (take l.i (lent_parts l.parts))) ≤ l.most.size);
  few : l.most.count ≤ l.fn.sums.count + l.i;
  short : l.most.size ≤ l.fn.sums.size + l.i * 2 ^ 66;
}
