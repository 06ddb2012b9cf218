use Rattle.std.proofs.Common.{◌≡◌, ◌≤◌, drop}
use Rattle.fp_shown.proofs.Scanning.{behind, between_at}
use Rattle.fp_shown.proofs.members.end_of_value.Given as goal

-- what stands behind the value is found from here on, and no more was opened than was passed
abbrev pub invariant-loop-at : goal.invariant-loop-at
invariant-loop-at l =
    (behind l.scan (drop l.at l.text) ≡ behind (between_at 0) l.text) × (l.scan.depth ≤ l.at)
