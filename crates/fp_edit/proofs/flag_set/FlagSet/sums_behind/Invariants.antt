use Rattle.std.proofs.Common.{◌≡◌, ◌≤◌, ◌+◌, ◌*◌, ◌^◌, take}
use Rattle.std.specs.FinMap as fin
use Rattle.fp_edit.specs.Admits.{parts_after}
use Rattle.fp_edit.specs.Flags.{size}
use Rattle.fp_edit.specs.Lent.{lent_parts}
use Rattle.fp_edit.proofs.flag_set.FlagSet.sums_behind.Given as goal

-- the numbers behind the parts that were passed
abbrev pub invariant-loop-i : goal.invariant-loop-i
invariant-loop-i l =
    (l.sums.count ≡ fin.len (parts_after (l.self.revision + 1) l.self.flags (take l.i (lent_parts l.parts))))
    × (l.sums.size ≡ size (parts_after (l.self.revision + 1) l.self.flags (take l.i (lent_parts l.parts))))
    × (l.sums.count ≤ 2 ^ 64 + l.i)
    × (l.sums.size ≤ 2 ^ 64 + l.i * 2 ^ 66)
