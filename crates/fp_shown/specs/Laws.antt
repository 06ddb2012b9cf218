-- What follows from the definitions, for all sets, all frames and all requests.
use Rattle.std.specs.Prelude.{◌≡◌, ℕ, List, Option}
use Rattle.fp_documents.specs.Document.{document}
use Rattle.fp_edit.specs.Flags.{State}
use Rattle.fp_group_commit.specs.Tokens.{FrontState, front_revision, front_set}
use Rattle.fp_ofrep.specs.Reply.{reply}
use Rattle.fp_stream.specs.declared.frame.Frame.{Frame}
use Rattle.fp_shown.specs.Sets.{IsLawful, IsSetOf}

-- two sets give the same reply to any request, at any moment
abbrev pub ReplyAlike : State → State → Type 0
ReplyAlike a b = (method target : List ℕ) (if_none_match body : Option (List ℕ)) (now : ℕ)
    → reply a method target if_none_match body now ≡ reply b method target if_none_match body now

-- sets of one revision and one document reply alike
abbrev pub SameDocumentSameReply : Type 0
SameDocumentSameReply = (a b : State) → IsLawful a → IsLawful b → a.revision ≡ b.revision
    → document a.flags ≡ document b.flags → ReplyAlike a b

-- a frame carries what a subscriber is handed of a front: its revision, and its set's document
pub record Carries (frame : Frame) (handed : FrontState) : Type 0 where
  pub at : frame.revision ≡ front_revision handed
  pub spelled : frame.body.items ≡ document (front_set handed).flags

-- what such a frame shows replies as the set of the front does
abbrev pub ShowsWhatWasHanded : Type 0
ShowsWhatWasHanded = (handed : FrontState) (frame : Frame) (s : State)
    → IsLawful (front_set handed) → IsLawful s → Carries frame handed
    → IsSetOf frame.revision frame.body.items s → ReplyAlike s (front_set handed)
