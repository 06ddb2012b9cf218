use Rattle.std.proofs.Common.{◌≡◌, ◌+◌, ◌-◌, ◌≤◌, length, drop}
use Rattle.std.specs.List.{prefix_len}
use Rattle.fp_base.specs.Unescaped.{is_unescaped}
use Rattle.fp_base.proofs.escaping.one_by_one.Given as goal

abbrev pub invariant-loop-len : goal.invariant-loop-len
invariant-loop-len l =
    (l.from + prefix_len is_unescaped (drop l.from l.bytes) ≡ l.len + prefix_len is_unescaped (drop l.len l.bytes))
    × (l.len ≤ length l.bytes)

abbrev pub decreases-loop-len : goal.decreases-loop-len
decreases-loop-len l = length l.bytes - l.len
