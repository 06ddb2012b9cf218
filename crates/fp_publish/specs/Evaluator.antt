-- What an evaluator holds.
use Rattle.std.specs.Prelude.{◌≡◌, Option, None, Some}
use Rattle.left_right.specs.Sides.{view}
use Rattle.fp_group_commit.specs.Tokens.{FrontState, Identity}
use Rattle.fp_publish.specs.Rule.{IsConsistent}
use Rattle.fp_publish.specs.declared.evaluator.Held.{Held}
use Rattle.fp_publish.specs.declared.evaluator.Held.TheVariants.{Out, In, Gone}

-- the most that it saw or learnt, and what it is lent now
pub record EvaluatorState : Type 0 where
  pub known : FrontState
  pub lent : Option FrontState

abbrev pub lent_of : Held → Option FrontState
lent_of (Out reader) = None
lent_of (In reading) = Some reading.part.value.front
lent_of Gone = None

-- a seat knows some front of this store
abbrev pub KnowsStore : Option FrontState → Identity → Type 0
KnowsStore known store = (f : FrontState) × (known ≡ Some f) × (f.store ≡ store)

-- the seat knows some front of this store; what it reads stands for what it knows
abbrev pub IsSeated : Held → Identity → Type 0
IsSeated (Out reader) store = KnowsStore (view reader.place) store
IsSeated (In reading) store = (view reading.place ≡ Some reading.part.value.front)
    × IsConsistent reading.part.value × (reading.part.value.front.store ≡ store)
IsSeated Gone store = Unit {0}
