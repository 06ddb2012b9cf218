use Rattle.std.proofs.Common.{◌≡◌, ◌≤◌, All, vec_len}
use Rattle.std.specs.Vec.{vec_capacity}
use Rattle.fp_publish.specs.declared.board.TheConstants.{MOST_EVALUATORS}
use Rattle.fp_hall.specs.Hall.{IsAtRest}
use Rattle.fp_hall.proofs.hall.evaluators.Given as goal

-- so many were made, of the board's store, and there is room for all
abbrev pub invariant-loop : goal.invariant-loop
invariant-loop g l =
    (l.board ≡ l.initial.board) × All (IsAtRest l.initial.board.store) l.evaluators.items
    × (vec_len l.evaluators ≡ l.counter) × (MOST_EVALUATORS ≤ vec_capacity l.evaluators)
