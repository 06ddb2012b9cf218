-- What an editor is answered.
use Rattle.std.specs.Prelude.{◌≡◌, ◌⊎◌, ◌≤◌, ℕ, List, [], ◌∷◌, ◌++◌, codes, Bool, true, false}
use Rattle.std.specs.Prelude.{Option, Some, None, IfSome, IsSomeAnd}
use Rattle.fp_group_commit.specs.Tokens.{FrontState, front_revision}
use Rattle.fp_streams.specs.Said.{AppendsLine}
use Rattle.fp_session.specs.Reply as flags
use Rattle.fp_session.specs.Reply.{Reply, error_text, reply_of_code}
use Rattle.fp_desk.specs.declared.fault.SubmitFault.{SubmitFault}
use Rattle.fp_desk.specs.declared.fault.SubmitFault.TheVariants as submit
use Rattle.fp_conversations.specs.declared.answer.Answer as code
use Rattle.fp_conversations.specs.declared.answer.Answer.TheVariants.{Flags, QueueFull, Stopped}

pub data Answer : Type 0 where
  -- what the flags say to a line, or that its edit isn't known to be kept
  reply : Reply → Answer
  -- 1,024 edits aren't settled yet
  queue_full : Answer
  -- no edit is taken any more
  stopped : Answer

abbrev pub answer_text : Answer → List ℕ
answer_text (reply r) = flags.reply_text r
answer_text queue_full = error_text (codes "queue-full")
answer_text stopped = error_text (codes "stopped")

-- each on a line of its own
abbrev pub texts_of : List Answer → List ℕ
texts_of [] = []
texts_of (a ∷ bs) = (answer_text a ++ 10 ∷ []) ++ texts_of bs

-- the revision that an answer tells as the one that its edit made
abbrev pub revision_of_reply : Reply → Option ℕ
revision_of_reply (flags.revision n) = Some n
revision_of_reply (flags.conflict current) = None
revision_of_reply (flags.conflict_in at current) = None
revision_of_reply flags.set_too_large = None
revision_of_reply flags.revisions_used = None
revision_of_reply (flags.no_edit f) = None
revision_of_reply flags.out_of_memory = None
revision_of_reply flags.store_failed = None

abbrev pub revision_in : Answer → Option ℕ
revision_in (reply r) = revision_of_reply r
revision_in queue_full = None
revision_in stopped = None

-- what an edit that wasn't taken is answered: why
abbrev pub answer_to_refusal : SubmitFault → Answer
answer_to_refusal submit.Stopped = stopped
answer_to_refusal submit.QueueFull = queue_full
answer_to_refusal (submit.Edit fault) = reply (flags.refusal_of fault)
answer_to_refusal submit.Memory = reply flags.out_of_memory

-- a revision that is answered is no greater than what was told
abbrev pub IsWithin : Option FrontState → Answer → Type 0
IsWithin told a = IfSome (revision_in a) (λ n. IsSomeAnd told (λ f. n ≤ front_revision f))

-- ---- the answers of the code

abbrev pub answer_of_code : code.Answer → Answer
answer_of_code (Flags r) = reply (reply_of_code r)
answer_of_code QueueFull = queue_full
answer_of_code Stopped = stopped

-- whether a reply only refuses, or says why a line is no edit
abbrev pub only_refuses : Reply → Bool
only_refuses (flags.revision n) = false
only_refuses (flags.conflict current) = true
only_refuses (flags.conflict_in at current) = true
only_refuses flags.set_too_large = true
only_refuses flags.revisions_used = true
only_refuses (flags.no_edit f) = true
only_refuses flags.out_of_memory = true
only_refuses flags.store_failed = false

-- whether memory may be wanting to tell it
abbrev pub may_want : Answer → Bool
may_want (reply r) = only_refuses r
may_want queue_full = false
may_want stopped = false

-- what is shown of an answer: itself, or that memory is wanting in place of one that only refuses
abbrev pub IsShownAs : Answer → Answer → Type 0
IsShownAs a b = (b ≡ a) ⊎ ((may_want a ≡ true) × (b ≡ reply flags.out_of_memory))

-- an answer stands as it is shown on a line of its own behind what a writer held
pub record IsSaid (a : Answer) (before held : Option (List ℕ)) : Type 0 where
  pub shown : Answer
  pub like : IsShownAs a shown
  pub line : AppendsLine before held (answer_text shown)
