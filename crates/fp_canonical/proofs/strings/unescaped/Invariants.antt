use Rattle.std.proofs.Common.{ℕ, List, length, drop, take, ◌-◌, ◌≡◌, ◌≤◌, ◌∷◌, ◌++◌}
use Rattle.json.specs.Print.{escape}
use Rattle.fp_canonical.proofs.strings.unescaped.Given as goal

-- what was put stands for what was passed; of a string's spelling, some is left
abbrev pub invariant-loop-at : goal.invariant-loop-at
invariant-loop-at l =
    (l.at ≤ length l.bytes) × (l.len ≤ l.at) × (take l.at l.bytes ≡ escape (take l.len l.room))
    × (length l.room ≡ length l.initial.room)
    × ((s left : List ℕ) → l.bytes ≡ escape s ++ 34 ∷ left → (t : List ℕ) × (drop l.at l.bytes ≡ escape t ++ 34 ∷ left))

abbrev pub decreases-loop-at : goal.decreases-loop-at
decreases-loop-at l = length l.bytes - l.at
