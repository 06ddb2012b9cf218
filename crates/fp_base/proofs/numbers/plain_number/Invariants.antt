use Rattle.std.proofs.Common.{◌≡◌, ◌≤◌, ◌<◌, ◌^◌, take}
use Rattle.std.specs.Fmt.{decimal}
use Rattle.fp_base.proofs.numbers.plain_number.Given as goal

-- the digits read so far write the number
abbrev pub invariant-loop-i : goal.invariant-loop-i
invariant-loop-i l = (1 ≤ l.i) × (l.number < 2 ^ 64) × (take l.i l.text ≡ decimal l.number)
