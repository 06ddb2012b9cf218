-- What a line of an editor comes to answers it.
use Rattle.std.proofs.Common.{◌≡◌, ℕ, List, [], Option, None, Some, Ok, Err, IfSome, IsSomeAnd, Result, refl, sym, subst, inl, inr}
use Rattle.fp_desk.specs.declared.fault.SubmitFault.{SubmitFault}
use Rattle.fp_desk.specs.declared.fault.SubmitFault.TheVariants as submit
use Rattle.fp_edit.specs.Edits.{Proposal, change_in, proposal_of}
use Rattle.fp_edit.specs.Line as line
use Rattle.fp_edit.specs.Spelled.{Tells, TellsInSet}
use Rattle.fp_edit.specs.declared.edit.Edit.{Edit}
use Rattle.fp_edit.specs.declared.edit.EditFault.{EditFault}
use Rattle.fp_edit.specs.declared.edit.EditFault.TheVariants as edit
use Rattle.fp_edit.specs.declared.line.PartFault.{PartFault}
use Rattle.fp_edit.specs.declared.line.PartFault.TheVariants as part
use Rattle.fp_edit.specs.declared.line.LineFault.{LineFault}
use Rattle.fp_edit.specs.declared.line.LineFault.TheVariants.{TooLong, NotJson, NotObject, BadMember, BadOp, BadKey}
use Rattle.fp_edit.specs.declared.line.LineFault.TheVariants.{BadIf, BadFlag, BadSet, InSet, Memory}
use Rattle.fp_group_commit.specs.Tokens.{FrontState, Identity}
use Rattle.fp_hall.specs.Places.{StandsAt}
use Rattle.fp_hall.specs.declared.editor.Said.{Said}
use Rattle.fp_session.specs.Asks.{Ask}
use Rattle.fp_session.specs.Progress.{AsksFor}
use Rattle.fp_session.specs.Reply as flags
use Rattle.fp_session.specs.Reply.{fault_of, fault_in, bad_flag_or_memory, bad_flag_in_or_memory, refusal_of, reply_of_code}
use Rattle.fp_session.specs.declared.reply.Reply as code
use Rattle.fp_conversations.specs.Answers.{Answer, reply, IsWithin, answer_to_refusal, revision_in}
use Rattle.fp_conversations.specs.Outcomes.{ComesTo, IsAnswerTo, IsHandedIn, IsMadeBy, IsOutcomeOf, IsToldBy, IsToldOf}
use Rattle.fp_conversations.specs.Outcomes.{answer_to_line, answer_to_outcome}
use Rattle.fp_conversations.specs.Outcomes.{said_by, said_of, told_by, told_of}
use Rattle.fp_conversations.specs.declared.answer.Answered.{Answered}
use Rattle.fp_conversations.specs.declared.answer.Answered.TheVariants as came
use Rattle.fp_conversations.specs.declared.answer.Outcome.{Outcome}
use Rattle.fp_conversations.specs.declared.answer.Outcome.TheVariants.{Kept, Refused, Unknown}

-- an answer to what was asked and handed in, with no greater a revision than was told
abbrev pub Fits : Ask → Option FrontState → Answer → List Said → Type 0
Fits x told a here = IsAnswerTo told x a here × IsWithin told a

-- ---- what became of an edit

-- what an edit that wasn't taken is answered tells no revision
fault-none : (f : EditFault) → revision_in (reply (refusal_of f)) ≡ None
fault-none (edit.Conflict current) = refl
fault-none (edit.ConflictIn at current) = refl
fault-none edit.SetTooLarge = refl
fault-none edit.RevisionsUsed = refl
fault-none edit.Memory = refl

refusal-none : (f : SubmitFault) → revision_in (answer_to_refusal f) ≡ None
refusal-none submit.Stopped = refl
refusal-none submit.QueueFull = refl
refusal-none (submit.Edit f) = fault-none f
refusal-none submit.Memory = refl

none-fits : (P : ℕ → Type 0) (r : Option ℕ) → r ≡ None → IfSome r P
none-fits P None is = tt
none-fits P (Some n) is = absurd (cc is)

outcome-within : (store : Identity) (o : Outcome) → IsToldBy store o → IsWithin (told_by o) (answer_to_outcome o)
outcome-within store (Kept ticket told) ours = ours.1
outcome-within store (Refused refusal) ours = none-fits _ (revision_in (answer_to_refusal refusal.fault)) (refusal-none refusal.fault)
outcome-within store (Unknown given_up) ours = tt

outcome-made : (store : Identity) (p : Proposal) (o : Outcome) → IsOutcomeOf p o → IsToldBy store o →
    IsMadeBy p (told_by o) (answer_to_outcome o)
outcome-made store p (Kept ticket told) own ours = subst (λ e. StandsAt told ticket.revision (change_in e)) own ours.2
outcome-made store p (Refused refusal) own ours = none-fits _ (revision_in (answer_to_refusal refusal.fault)) (refusal-none refusal.fault)
outcome-made store p (Unknown given_up) own ours = tt

outcome-fits : (store : Identity) (x : Ask) (p : Proposal) (o : Outcome) → x ≡ Ok p → IsOutcomeOf p o → IsToldBy store o →
    Fits x (told_by o) (answer_to_outcome o) (said_by o)
outcome-fits store x p o asks own ours =
    let answers : IsAnswerTo (told_by o) (Ok p) (answer_to_outcome o) (said_by o) =
    (outcome-made store p o own ours, inl (o, own, refl, inl refl)) in
    (subst (λ (y : Ask). IsAnswerTo (told_by o) y (answer_to_outcome o) (said_by o)) (sym asks) answers, outcome-within store o ours)

-- ---- a line that is no edit

fault-fits : (x : Ask) (e : LineFault) → Tells e (λ f. x ≡ Err f) → Fits x None (reply (fault_of e)) []
fault-fits x e told = by_fault e told
  where
    stands : (f : line.Fault) → x ≡ Err f → Fits x None (reply (flags.no_edit f)) []
    stands f h = (subst (λ (y : Ask). IsAnswerTo None y (reply (flags.no_edit f)) []) (sym h) (refl, inl refl), tt)

    wanting : (y : Ask) → IsAnswerTo None y (reply flags.out_of_memory) []
    wanting (Ok p) = (tt, inr (refl, refl))
    wanting (Err f) = (refl, inr refl)

    of_flag : (o : Option _) → IsSomeAnd o (λ f. x ≡ Err (line.bad_flag f)) → Fits x None (reply (bad_flag_or_memory o)) []
    of_flag None h = absurd h
    of_flag (Some f) h = stands (line.bad_flag f) h

    of_flag_in : (at : ℕ) (o : Option _) → IsSomeAnd o (λ f. x ≡ Err (line.in_set at (line.bad_flag f))) →
        Fits x None (reply (bad_flag_in_or_memory at o)) []
    of_flag_in at None h = absurd h
    of_flag_in at (Some f) h = stands (line.in_set at (line.bad_flag f)) h

    by_part : (at : ℕ) (e : PartFault) → TellsInSet at e (λ f. x ≡ Err f) → Fits x None (reply (fault_in at e)) []
    by_part at part.NotObject h = stands (line.in_set at line.not_object) h
    by_part at part.BadMember h = stands (line.in_set at line.bad_member) h
    by_part at part.BadOp h = stands (line.in_set at line.bad_op) h
    by_part at part.BadKey h = stands (line.in_set at line.bad_key) h
    by_part at part.BadIf h = stands (line.in_set at line.bad_if) h
    by_part at (part.BadFlag f) h = of_flag_in at _ h
    by_part at part.Memory h = absurd h

    by_fault : (e : LineFault) → Tells e (λ f. x ≡ Err f) → Fits x None (reply (fault_of e)) []
    by_fault TooLong h = stands line.too_long h
    by_fault NotJson h = stands line.not_json h
    by_fault NotObject h = stands line.not_object h
    by_fault BadMember h = stands line.bad_member h
    by_fault BadOp h = stands line.bad_op h
    by_fault BadKey h = stands line.bad_key h
    by_fault BadIf h = stands line.bad_if h
    by_fault (BadFlag f) h = of_flag _ h
    by_fault BadSet h = stands line.bad_set h
    by_fault (InSet at e) h = by_part at e h
    by_fault Memory h = (wanting x, tt)

-- ---- what a line came to

pub answered-fits : (store : Identity) (asked : Result Edit LineFault) (a : Answered) (x : Ask) → ComesTo asked a →
    IsToldOf store a → AsksFor asked x → Fits x (told_of a) (answer_to_line a) (said_of a)
answered-fits store (Ok edit) (came.Edit o) x own ours asks = outcome-fits store x (proposal_of edit) o asks own ours
answered-fits store (Ok edit) (came.NoEdit said) x own ours asks = absurd own
answered-fits store (Err fault) (came.Edit o) x own ours asks = absurd own
answered-fits store (Err fault) (came.NoEdit said) x own ours asks =
    subst (λ (r : code.Reply). Fits x None (reply (reply_of_code r)) []) (sym own) (fault-fits x fault asks)

-- an edit is handed in once, and a line that is no edit not at all
pub answered-handed : (asked : Result Edit LineFault) (a : Answered) (x : Ask) → ComesTo asked a → AsksFor asked x →
    IsHandedIn x (said_of a)
answered-handed (Ok edit) (came.Edit o) x own asks =
    subst (λ (y : Ask). IsHandedIn y (said_by o)) (sym asks) (inr (o, own, refl))
answered-handed (Ok edit) (came.NoEdit said) x own asks = absurd own
answered-handed (Err fault) (came.Edit o) x own asks = absurd own
answered-handed (Err fault) (came.NoEdit said) (Ok p) own asks = inl refl
answered-handed (Err fault) (came.NoEdit said) (Err f) own asks = refl

pub told-ours : (store : Identity) (a : Answered) → IsToldOf store a → IfSome (told_of a) (λ t. t.store ≡ store)
told-ours store (came.Edit (Kept ticket told)) ours = ours.0
told-ours store (came.Edit (Refused refusal)) ours = tt
told-ours store (came.Edit (Unknown given_up)) ours = tt
told-ours store (came.NoEdit said) ours = tt
