use Rattle.std.proofs.Common.{ℕ, List, length, drop, take, get_or, decimal, ◌-◌, ◌≡◌, ◌<◌, ◌≤◌, ◌^◌}
use Rattle.std.proofs.Common.{◌++◌}
use Rattle.fp_canonical.specs.Reads.{Ends}
use Rattle.fp_canonical.proofs.Digits.{IsLeft}
use Rattle.fp_canonical.proofs.cursor.Cursor.digits.Given as goal

-- the digits read so far write the number, which begins each that stands there
abbrev pub invariant-loop-digit : goal.invariant-loop-digit
invariant-loop-digit l =
    (1 ≤ l.len) × (l.len ≤ length l.bytes) × (l.number < 2 ^ 64) × (take l.len l.bytes ≡ decimal l.number)
    × (get_or l.bytes (l.len - 1) 0 < 128)
    × ((n : ℕ) (left : List ℕ) → n ≤ 2 ^ 63 → l.bytes ≡ decimal n ++ left → Ends left → IsLeft n l.number (drop l.len l.bytes) left)

abbrev pub decreases-loop-digit : goal.decreases-loop-digit
decreases-loop-digit l = length l.bytes - l.len
