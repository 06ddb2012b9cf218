-- Where what is asked comes from: what a source asks, and how far it was asked.
use Rattle.std.specs.Prelude.{◌≡◌, ◌+◌, ℕ, List, [], ◌∷◌, ◌++◌, length, Bool, true, false, Option}
use Rattle.std.specs.Prelude.{Some, None, Result, if◌then◌else◌}
use Rattle.fp_edit.specs.declared.edit.Edit.{Edit}
use Rattle.fp_edit.specs.declared.line.LineFault.{LineFault}
use Rattle.fp_session.specs.Asks.{Ask, asked_by_input}
use Rattle.fp_session.specs.Lines.{line_up_to_limit, lines}
use Rattle.fp_session.specs.Progress.{AsksFor}
use Rattle.fp_session.specs.declared.batching.Batching.{Batching}
use Rattle.fp_session.specs.declared.batching.Batching.TheVariants.{Single, Full}
use Rattle.fp_session.specs.Numbers.{MOST_WAITING}

-- whatever the source asked in all at first, these were asked so far, and it asks what is left
abbrev pub HasAsked : {A S : Type 0} → (A → S → List Ask → Type 0) → A → S → A → S → List Ask
    → Type 0
HasAsked asks first at_first now stream asked = (all : List Ask) → asks first at_first all
    → (rest : List Ask) × (asked ++ rest ≡ all) × asks now stream rest

-- what a source asks next: what it asked before where nothing comes, or else the first of that
abbrev pub AsksNext : {A S : Type 0} → (A → S → List Ask → Type 0) → A → A
    → Option (Result Edit LineFault) → Type 0
AsksNext {S = S} asks old new None = (stream : S) (all : List Ask) → asks old stream all
    → asks new stream all
AsksNext {S = S} asks old new (Some edit) = (x : Ask) × AsksFor edit x
    × ((stream : S) (all : List Ask) → asks old stream all
    → (rest : List Ask) × (x ∷ rest ≡ all) × asks new stream rest)

-- ---- batches

-- the most things asked that wait from one to the next
abbrev pub most_waiting : Batching → ℕ
most_waiting Single = 0
most_waiting Full = MOST_WAITING

-- the most of one batch
abbrev pub most_at_once : Batching → ℕ
most_at_once Single = 1
most_at_once Full = MOST_WAITING

-- ---- lines

-- the line that came in so far, as far as it is looked at, and what came in behind it
pub record LinesState : Type 0 where
  pub line : List ℕ
  pub left : List ℕ
  pub ended : Bool

-- the text is all that is left, or what is still to be read stands behind it
abbrev pub IsLeftToAsk : Bool → Option (List ℕ) → List ℕ → List Ask → Type 0
IsLeftToAsk true reads text asked = asked ≡ asked_by_input text
IsLeftToAsk false reads text asked = (input : List ℕ) × (reads ≡ Some input)
    × (asked ≡ asked_by_input (text ++ input))

-- such lines ask these: the one that came in so far goes on with what came in behind it
pub record AskLines (l : LinesState) (reads : Option (List ℕ)) (asked : List Ask) : Type 0 where
  pub line : List ℕ
  pub one : lines line ≡ line ∷ []
  pub held : l.line ≡ line_up_to_limit line
  pub left : IsLeftToAsk l.ended reads (line ++ l.left) asked

-- how many bytes are still to be looked at: what came in, and at the end the last line too
abbrev pub bytes_at_hand : LinesState → ℕ
bytes_at_hand l = length l.left + (if l.ended then length l.line else 0)
