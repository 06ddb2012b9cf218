use Rattle.std.proofs.Common.{◌≡◌, ◌++◌, ℕ, List, length}
use Rattle.fp_session.specs.Requests.{is_left}
use Rattle.fp_session.proofs.request.RequestLine.followed.Given as goal

-- what is left decides
abbrev pub invariant-loop-left : goal.invariant-loop-left
invariant-loop-left l = (rest : List ℕ) → is_left l.line (l.left ++ rest) ≡ is_left l.fn.self (l.bytes ++ rest)

abbrev pub decreases-loop-left : goal.decreases-loop-left
decreases-loop-left l = length l.left
