use Rattle.std.proofs.Common.{◌≡◌, ◌-◌, ◌≤◌, ◌++◌, length, take}
use Rattle.json.specs.Print.{escape}
use Rattle.fp_base.proofs.escaping.put_escaped.Given as goal

abbrev pub invariant-loop-at : goal.invariant-loop-at
invariant-loop-at l = (l.out.items ≡ l.initial.out.items ++ escape (take l.at l.bytes)) × (l.at ≤ length l.bytes)

abbrev pub decreases-loop-at : goal.decreases-loop-at
decreases-loop-at l = length l.bytes - l.at
