-- What is published, and who takes it.
use Rattle.std.specs.Prelude.{◌≡◌, ℕ, List, slice_get, Option, Some, None}
use Rattle.std.specs.List.{All}
use Rattle.fp_group_commit.specs.Tokens.{FrontState, Identity}
use Rattle.fp_stream.specs.declared.hello.Hello.{Hello}
use Rattle.fp_publish.specs.Evaluator.{EvaluatorState}
use Rattle.fp_publish.specs.Seats.{IsNews, IsOfStore}

-- the front that is shown, what the subscriber of each seat has, and how many evaluators there are
pub record ViewsState : Type 0 where
  pub board : FrontState
  pub seats : List Hello
  pub readers : ℕ

-- what is shown is news to the subscriber of this seat, or it isn't
abbrev pub HasNews : ViewsState → ℕ → Type 0
HasNews v seat = (has : Hello) × (slice_get v.seats seat ≡ Some has) × IsNews has v.board

abbrev pub HasNoNews : ViewsState → ℕ → Type 0
HasNoNews v seat = (has : Hello) × (slice_get v.seats seat ≡ Some has) × ¬ IsNews has v.board

-- an evaluator that rests, and knows this store alone
abbrev pub IsResting : Identity → EvaluatorState → Type 0
IsResting store e = (e.known.store ≡ store) × (e.lent ≡ None)

-- the token is of what is shown; every evaluator rests; what was handed last is of the same store
pub record IsShown (board token : FrontState) (evaluators : List EvaluatorState)
    (handed : Option FrontState) : Type 0 where
  pub shown : token ≡ board
  pub rest : All (IsResting board.store) evaluators
  pub last : IsOfStore handed board
