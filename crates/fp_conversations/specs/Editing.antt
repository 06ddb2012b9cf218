-- How far what an editor asks was handed in and answered.
use Rattle.std.specs.Prelude.{◌≡◌, ℕ, List, ◌++◌, Option, IfSome, IsSomeAnd, All}
use Rattle.std.specs.Io.KnownBytes.{Appends}
use Rattle.fp_group_commit.specs.Tokens.{FrontState, Identity}
use Rattle.fp_publish.specs.Fronts.{Begins}
use Rattle.fp_session.specs.Asks.{Ask, asked_by_input}
use Rattle.fp_session.specs.Requests.{IsHttpRequest, first_line}
use Rattle.fp_conversations.specs.Answers.{Answer, IsWithin, texts_of}
use Rattle.fp_hall.specs.declared.editor.Said.{Said}
use Rattle.fp_conversations.specs.Outcomes.{AreAnswersTo, AreHandedIn}
use Rattle.fp_conversations.specs.declared.editor.EditorEnd.{EditorEnd}
use Rattle.fp_conversations.specs.declared.editor.EditorEnd.TheVariants.{Served, HttpRequest}

-- Behind what a writer held stand the answers to what was asked, a line each. Each revision among them
-- is one that its edit made in what was told, which is of this store, and so none is greater. Behind
-- what the hall had said to the editor stands what it said of these edits, each once
pub record IsServed (store : Identity) (told : Option FrontState) (asked : List Ask)
    (was now : List Said) (before held : Option (List ℕ)) : Type 0 where
  pub answers : List Answer
  pub said : List Said
  pub each : AreAnswersTo told asked answers said
  pub heard : now ≡ was ++ said
  pub written : Appends before held (texts_of answers)
  pub within : All (IsWithin told) answers
  pub ours : IfSome told (λ f. f.store ≡ store)

-- the same of some first of what was asked
pub record IsServedFirst (store : Identity) (told : Option FrontState) (asks : List Ask)
    (was now : List Said) (before held : Option (List ℕ)) : Type 0 where
  pub asked : List Ask
  pub later : List Ask
  pub part : asked ++ later ≡ asks
  pub served : IsServed store told asked was now before held

-- behind what the hall had said to the editor stands what it said of what is asked, no edit twice
pub record HandsIn (asked : List Ask) (was now : List Said) : Type 0 where
  pub said : List Said
  pub each : AreHandedIn asked said
  pub heard : now ≡ was ++ said

-- Of an input each line was answered, where its first line is no HTTP request's
abbrev pub Ends : Identity → EditorEnd → List ℕ → List Said → List Said → Option (List ℕ)
    → Option (List ℕ) → Type 0
Ends store (Served told) input was now before held = (IsHttpRequest (first_line input) → ⊥)
    × IsServed store told (asked_by_input input) was now before held
Ends store HttpRequest input was now before held = IsHttpRequest (first_line input)

-- what was told goes on from this
abbrev pub GoesOnFrom : Option FrontState → Option FrontState → Type 0
GoesOnFrom told less = IfSome less (λ f. IsSomeAnd told (Begins f))
