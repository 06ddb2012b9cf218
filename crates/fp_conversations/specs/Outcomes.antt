-- What a line of an editor comes to, what becomes of an edit that it hands in, and what the hall says of
-- that.
use Rattle.std.specs.Prelude.{◌≡◌, ◌⊎◌, ◌≤◌, List, [], ◌∷◌, ◌++◌, Option, Some, None, Result, Ok, Err}
use Rattle.std.specs.Prelude.{IfSome, IsSomeAnd}
use Rattle.fp_edit.specs.Edits.{Proposal, change_in, proposal_of}
use Rattle.fp_edit.specs.declared.edit.Edit.{Edit}
use Rattle.fp_edit.specs.declared.line.LineFault.{LineFault}
use Rattle.fp_group_commit.specs.Tokens.{FrontState, Identity, front_revision}
use Rattle.fp_hall.specs.Places.{StandsAt}
use Rattle.fp_hall.specs.declared.editor.Said.{Said}
use Rattle.fp_hall.specs.declared.editor.Said.TheVariants as said
use Rattle.fp_session.specs.Asks.{Ask}
use Rattle.fp_session.specs.Reply as flags
use Rattle.fp_session.specs.Reply.{reply_of_code}
use Rattle.fp_session.specs.declared.reply.Reply.TheVariants as code
use Rattle.fp_conversations.specs.Answers.{Answer, IsShownAs, answer_to_refusal, reply, revision_in}
use Rattle.fp_conversations.specs.declared.answer.Answered.{Answered}
use Rattle.fp_conversations.specs.declared.answer.Answered.TheVariants as came
use Rattle.fp_conversations.specs.declared.answer.Outcome.{Outcome}
use Rattle.fp_conversations.specs.declared.answer.Outcome.TheVariants.{Kept, Refused, Unknown}

-- it is of this edit, by its ticket or by its refusal
abbrev pub IsOutcomeOf : Proposal → Outcome → Type 0
IsOutcomeOf edit (Kept ticket told) = ticket.edit ≡ edit
IsOutcomeOf edit (Refused refusal) = refusal.edit ≡ edit
IsOutcomeOf edit (Unknown given_up) = given_up.edit ≡ edit

-- where it is kept, what is told is of this store and has its revision, which the ticket's edit made
abbrev pub IsToldBy : Identity → Outcome → Type 0
IsToldBy store (Kept ticket told) = (told.store ≡ store)
    × (ticket.revision ≤ front_revision told)
    × StandsAt told ticket.revision (change_in ticket.edit)
IsToldBy store (Refused refusal) = Unit {0}
IsToldBy store (Unknown given_up) = Unit {0}

-- its answer: its ticket's revision, why it was refused, or that it isn't known to be kept
abbrev pub answer_to_outcome : Outcome → Answer
answer_to_outcome (Kept ticket told) = reply (flags.revision ticket.revision)
answer_to_outcome (Refused refusal) = answer_to_refusal refusal.fault
answer_to_outcome (Unknown given_up) = reply flags.store_failed

-- and what was told with it
abbrev pub told_by : Outcome → Option FrontState
told_by (Kept ticket told) = Some told
told_by (Refused refusal) = None
told_by (Unknown given_up) = None

-- what the hall said of it: that it is taken or why it isn't, and where it is given up that
abbrev pub said_by : Outcome → List Said
said_by (Kept ticket told) = said.Taken ticket ∷ []
said_by (Refused refusal) = said.Refused refusal ∷ []
said_by (Unknown given_up) = said.Taken given_up ∷ said.Unknown given_up ∷ []

-- ---- what is handed in
-- an edit is handed in once at most; a line that is no edit hands nothing in
abbrev pub IsHandedIn : Ask → List Said → Type 0
IsHandedIn (Ok edit) here = (here ≡ [])
    ⊎ ((outcome : Outcome) × IsOutcomeOf edit outcome × (here ≡ said_by outcome))
IsHandedIn (Err fault) here = here ≡ []

-- each line hands in so much, in order, and nothing else is handed in
abbrev pub AreHandedIn : List Ask → List Said → Type 0
AreHandedIn [] heard = heard ≡ []
AreHandedIn (x ∷ xs) heard = (here later : List Said) × (heard ≡ here ++ later)
    × IsHandedIn x here × AreHandedIn xs later

-- ---- what is answered
-- a revision that is answered is one that this edit made, in what was told
abbrev pub IsMadeBy : Proposal → Option FrontState → Answer → Type 0
IsMadeBy edit told a = IfSome (revision_in a)
    (λ n. IsSomeAnd told (λ f. StandsAt f n (change_in edit)))

-- an edit is handed in once, and answered by what the hall said of it, and by no revision but one
-- that it made; a line that is no edit is told why; to read either memory may be wanting, and then
-- nothing is handed in
abbrev pub IsAnswerTo : Option FrontState → Ask → Answer → List Said → Type 0
IsAnswerTo told (Ok edit) a here = IsMadeBy edit told a × (((outcome : Outcome)
    × IsOutcomeOf edit outcome × (here ≡ said_by outcome) × IsShownAs (answer_to_outcome outcome) a)
    ⊎ ((here ≡ []) × (a ≡ reply flags.out_of_memory)))
IsAnswerTo told (Err fault) a here = (here ≡ [])
    × ((a ≡ reply (flags.no_edit fault)) ⊎ (a ≡ reply flags.out_of_memory))

-- each is answered, in order, and nothing is handed in but what they ask
abbrev pub AreAnswersTo : Option FrontState → List Ask → List Answer → List Said → Type 0
AreAnswersTo told [] [] heard = heard ≡ []
AreAnswersTo told [] (a ∷ bs) heard = ⊥
AreAnswersTo told (x ∷ xs) [] heard = ⊥
AreAnswersTo told (x ∷ xs) (a ∷ bs) heard = (here later : List Said) × (heard ≡ here ++ later)
    × IsAnswerTo told x a here × AreAnswersTo told xs bs later

-- ---- a line

-- an edit comes to what became of that edit, and a line that is no edit to
-- the reply that says why: nothing else
abbrev pub ComesTo : Result Edit LineFault → Answered → Type 0
ComesTo (Ok edit) (came.Edit outcome) = IsOutcomeOf (proposal_of edit) outcome
ComesTo (Ok edit) (came.NoEdit why) = ⊥
ComesTo (Err fault) (came.Edit outcome) = ⊥
ComesTo (Err fault) (came.NoEdit why) = why ≡ code.NoEdit fault

-- what is told of it is of this store, and has its revision
abbrev pub IsToldOf : Identity → Answered → Type 0
IsToldOf store (came.Edit outcome) = IsToldBy store outcome
IsToldOf store (came.NoEdit why) = Unit {0}

-- what the hall said of it
abbrev pub said_of : Answered → List Said
said_of (came.Edit outcome) = said_by outcome
said_of (came.NoEdit why) = []

-- what it is answered
abbrev pub answer_to_line : Answered → Answer
answer_to_line (came.Edit outcome) = answer_to_outcome outcome
answer_to_line (came.NoEdit why) = reply (reply_of_code why)

-- and what was told with it
abbrev pub told_of : Answered → Option FrontState
told_of (came.Edit outcome) = told_by outcome
told_of (came.NoEdit why) = None
