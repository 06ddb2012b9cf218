-- Replies to lines, and their texts.
use Rattle.std.specs.Prelude.{ℕ, List, [], ◌∷◌, ◌++◌, drop, codes, decimal, Bool, true, false, not}
use Rattle.std.specs.Prelude.{◌||◌, if◌then◌else◌, Option, Some, None}
use Rattle.serde_json.specs.Data.{string}
use Rattle.serde_json.specs.Written.{compact_text}
use Rattle.fp_definition.specs.Valid as flag
use Rattle.fp_definition.specs.Faults.{tells, word_of}
use Rattle.fp_edit.specs.Line as line
use Rattle.fp_edit.specs.declared.edit.EditFault.{EditFault}
use Rattle.fp_edit.specs.declared.edit.EditFault.TheVariants as edit
use Rattle.fp_edit.specs.declared.line.PartFault.{PartFault}
use Rattle.fp_edit.specs.declared.line.PartFault.TheVariants as part
use Rattle.fp_edit.specs.declared.line.LineFault.{LineFault}
use Rattle.fp_edit.specs.declared.line.LineFault.TheVariants.{TooLong, NotJson, NotObject}
use Rattle.fp_edit.specs.declared.line.LineFault.TheVariants.{BadMember, BadOp, BadKey, BadIf}
use Rattle.fp_edit.specs.declared.line.LineFault.TheVariants.{BadFlag, BadSet, InSet, Memory}
use Rattle.fp_session.specs.declared.reply.Reply as code
use Rattle.fp_session.specs.declared.reply.Reply.TheVariants.{Revision, Refused, NoEdit}
use Rattle.fp_session.specs.declared.reply.Reply.TheVariants.{StoreFailed}

pub data Reply : Type 0 where
  -- the revision that the edit made
  revision : ℕ → Reply
  -- the revision that changed the key's flag last
  conflict : Option ℕ → Reply
  -- the same of the change of a set at this place
  conflict_in : ℕ → Option ℕ → Reply
  set_too_large : Reply
  revisions_used : Reply
  no_edit : line.Fault → Reply
  out_of_memory : Reply
  -- the edit isn't known to be kept
  store_failed : Reply

-- ---- texts

-- an object whose one member is `error`
abbrev pub error_text : List ℕ → List ℕ
error_text word = codes "{\"error\":\"" ++ word ++ codes "\"}"

abbrev pub number_or_null : Option ℕ → List ℕ
number_or_null None = codes "null"
number_or_null (Some n) = decimal n

-- the operator that there isn't, as a JSON text
abbrev pub operator_member : flag.Fault → List ℕ
operator_member (flag.unsupported_operator name) =
    codes ",\"operator\":" ++ compact_text (string name)
operator_member f = []

abbrev pub flag_text : flag.Fault → List ℕ
flag_text f = codes "{\"detail\":\"" ++ word_of f ++ codes "\",\"error\":\"flag\""
    ++ operator_member f ++ codes "}"

-- an object's text, with its place in a set as its first member
abbrev pub placed : ℕ → List ℕ → List ℕ
placed at text = codes "{\"at\":" ++ decimal at ++ codes "," ++ drop 1 text

-- an object's text, with its place in front where it stands in a set
abbrev pub placed_if : Option ℕ → List ℕ → List ℕ
placed_if None text = text
placed_if (Some at) text = placed at text

abbrev pub line_text : line.Fault → List ℕ
line_text line.too_long = error_text (codes "line-too-long")
line_text line.not_json = error_text (codes "not-json")
line_text line.not_object = error_text (codes "not-object")
line_text line.bad_member = error_text (codes "bad-member")
line_text line.bad_op = error_text (codes "bad-op")
line_text line.bad_key = error_text (codes "bad-key")
line_text line.bad_if = error_text (codes "bad-if")
line_text (line.bad_flag f) = flag_text f
line_text line.bad_set = error_text (codes "bad-set")
line_text (line.in_set at f) = placed at (line_text f)

abbrev pub conflict_text : Option ℕ → List ℕ
conflict_text current =
    codes "{\"current\":" ++ number_or_null current ++ codes ",\"error\":\"conflict\"}"

abbrev pub reply_text : Reply → List ℕ
reply_text (revision n) = codes "{\"revision\":" ++ decimal n ++ codes "}"
reply_text (conflict current) = conflict_text current
reply_text (conflict_in at current) = placed at (conflict_text current)
reply_text set_too_large = error_text (codes "set-too-large")
reply_text revisions_used = error_text (codes "revisions-used")
reply_text (no_edit f) = line_text f
reply_text out_of_memory = error_text (codes "out-of-memory")
reply_text store_failed = error_text (codes "store-failed")

-- each reply on a line of its own
abbrev pub texts_of : List Reply → List ℕ
texts_of [] = []
texts_of (r ∷ rs) = (reply_text r ++ 10 ∷ []) ++ texts_of rs

-- whether a reply tells what became of its line
abbrev pub is_told : Reply → Bool
is_told (revision n) = true
is_told (conflict current) = true
is_told (conflict_in at current) = true
is_told set_too_large = true
is_told revisions_used = true
is_told (no_edit f) = true
is_told out_of_memory = false
is_told store_failed = true

-- whether a reply tells of a revision
abbrev pub tells_revision : Reply → Bool
tells_revision (revision n) = true
tells_revision (conflict current) = true
tells_revision (conflict_in at current) = true
tells_revision set_too_large = false
tells_revision revisions_used = false
tells_revision (no_edit f) = false
tells_revision out_of_memory = false
tells_revision store_failed = false

-- how a reply is told where the batch that it waits for is kept,
-- and where it isn't: then no revision is told
abbrev pub told_if : Bool → Reply → Reply
told_if is_kept r = if is_kept || not (tells_revision r) then r else store_failed

-- ---- the replies of the code

abbrev pub refusal_of : EditFault → Reply
refusal_of (edit.Conflict current) = conflict current
refusal_of (edit.ConflictIn at current) = conflict_in at current
refusal_of edit.SetTooLarge = set_too_large
refusal_of edit.RevisionsUsed = revisions_used
refusal_of edit.Memory = out_of_memory

abbrev pub bad_flag_or_memory : Option flag.Fault → Reply
bad_flag_or_memory None = out_of_memory
bad_flag_or_memory (Some f) = no_edit (line.bad_flag f)

abbrev pub bad_flag_in_or_memory : ℕ → Option flag.Fault → Reply
bad_flag_in_or_memory at None = out_of_memory
bad_flag_in_or_memory at (Some f) = no_edit (line.in_set at (line.bad_flag f))

abbrev pub fault_in : ℕ → PartFault → Reply
fault_in at part.NotObject = no_edit (line.in_set at line.not_object)
fault_in at part.BadMember = no_edit (line.in_set at line.bad_member)
fault_in at part.BadOp = no_edit (line.in_set at line.bad_op)
fault_in at part.BadKey = no_edit (line.in_set at line.bad_key)
fault_in at part.BadIf = no_edit (line.in_set at line.bad_if)
fault_in at (part.BadFlag f) = bad_flag_in_or_memory at (tells f)
fault_in at part.Memory = out_of_memory

abbrev pub fault_of : LineFault → Reply
fault_of TooLong = no_edit line.too_long
fault_of NotJson = no_edit line.not_json
fault_of NotObject = no_edit line.not_object
fault_of BadMember = no_edit line.bad_member
fault_of BadOp = no_edit line.bad_op
fault_of BadKey = no_edit line.bad_key
fault_of BadIf = no_edit line.bad_if
fault_of (BadFlag f) = bad_flag_or_memory (tells f)
fault_of BadSet = no_edit line.bad_set
fault_of (InSet at f) = fault_in at f
fault_of Memory = out_of_memory

abbrev pub reply_of_code : code.Reply → Reply
reply_of_code (Revision n) = revision n
reply_of_code (Refused e) = refusal_of e
reply_of_code (NoEdit f) = fault_of f
reply_of_code StoreFailed = store_failed
