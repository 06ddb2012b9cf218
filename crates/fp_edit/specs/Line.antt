-- What a line says: an edit, or the first fault that the line has.
use Rattle.std.specs.Prelude.{ℕ, length, codes, Bool, true, ◌&&◌, ◌||◌, nat_le, nat_lt}
use Rattle.std.specs.Prelude.{suc, List, [], ◌∷◌, false, bytes_eq, if◌then◌else◌, Option, Some, None}
use Rattle.std.specs.Prelude.{is_none, Result, Ok, Err}
use Rattle.serde_json.specs.Data.{Data, null, number, string, array, object, Items, no_items, item}
use Rattle.serde_json.specs.Data.{Members, no_members, member}
use Rattle.serde_json.specs.Events.{items_len}
use Rattle.serde_json.specs.Find.{get, as_u64}
use Rattle.serde_json.specs.Written.{compact_text}
use Rattle.fp_base.specs.Json.{json_of}
use Rattle.fp_base.specs.Steps.{◌>>=◌}
use Rattle.fp_definition.specs.Key.{is_key}
use Rattle.fp_definition.specs.Valid as valid
use Rattle.fp_definition.specs.Valid.{first_fault}
use Rattle.fp_edit.specs.Changes.{is_count, set_fault}
use Rattle.fp_edit.specs.Parts.{put, delete, ProposedPart, parts_of}
use Rattle.fp_edit.specs.Edits.{Proposal, single, joint}
use Rattle.fp_edit.specs.Numbers.{REVISIONS_END}
use Rattle.fp_edit.specs.Numbers.{LONGEST_LINE}
use Rattle.fp_edit.specs.declared.edit.Expect.{Expect}
use Rattle.fp_edit.specs.declared.edit.Expect.TheVariants.{Any, Absent, At}
use Rattle.fp_edit.specs.declared.line.Op.{Op}
use Rattle.fp_edit.specs.declared.line.Op.TheVariants.{Put, Delete}

-- what is wrong with a line
pub data Fault : Type 0 where
  too_long : Fault
  not_json : Fault
  not_object : Fault
  bad_member : Fault
  bad_op : Fault
  bad_key : Fault
  bad_if : Fault
  bad_flag : valid.Fault → Fault
  bad_set : Fault
  -- the part at this place, counted from 0, has this fault
  in_set : ℕ → Fault → Fault

abbrev pub must : {A : Type 0} → Option A → Fault → Result A Fault
must (Some x) e = Ok x
must None e = Err e

-- the four names of members of an edit of one flag
abbrev pub is_known : List ℕ → Bool
is_known name = bytes_eq name (codes "flag")
    || (bytes_eq name (codes "if") || (bytes_eq name (codes "key") || bytes_eq name (codes "op")))

abbrev pub all_known : Members → Bool
all_known no_members = true
all_known (member name d ms) = is_known name && all_known ms

-- `op`: one of two texts
abbrev pub op_by_name : List ℕ → Result Op Fault
op_by_name s = if bytes_eq s (codes "put") then Ok Put
    else if bytes_eq s (codes "delete") then Ok Delete else Err bad_op

abbrev pub op_of : Option Data → Result Op Fault
op_of (Some (string s)) = op_by_name s
op_of d = Err bad_op

-- `key`: a text that is a key
abbrev pub key_of : Option Data → Result (List ℕ) Fault
key_of (Some (string s)) = if is_key s then Ok s else Err bad_key
key_of d = Err bad_key

-- `if`: absent, null, one of two texts, or a revision
abbrev pub expect_by_name : List ℕ → Result Expect Fault
expect_by_name s = if bytes_eq s (codes "any") then Ok Any
    else if bytes_eq s (codes "absent") then Ok Absent else Err bad_if

abbrev pub expect_at : Option ℕ → Result Expect Fault
expect_at None = Err bad_if
expect_at (Some n) = if nat_lt 0 n && nat_lt n REVISIONS_END then Ok (At n) else Err bad_if

abbrev pub expect_of : Option Data → Result Expect Fault
expect_of None = Ok Any
expect_of (Some null) = Ok Any
expect_of (Some (string s)) = expect_by_name s
expect_of (Some (number n)) = expect_at (as_u64 n)
expect_of (Some d) = Err bad_if

abbrev pub text_unless : Option valid.Fault → List ℕ → Result (List ℕ) Fault
text_unless None text = Ok text
text_unless (Some f) text = Err (bad_flag f)

-- `flag`, of a put: a definition, taken as its canonical text
unfoldable pub flag_of : Option Data → Result (List ℕ) Fault
flag_of None = Err (bad_flag valid.not_object)
flag_of (Some d) = text_unless (first_fault d) (compact_text d)

abbrev pub part_with : Op → List ℕ → Expect → Option Data → Result ProposedPart Fault
part_with Delete key expect flag = Ok (record { part = delete key; expect = expect })
part_with Put key expect flag =
    flag_of flag >>= λ text. Ok (record { part = put key text; expect = expect })

-- the members in the order in which they are looked at
unfoldable pub part_of : Data → Result ProposedPart Fault
part_of d =
    op_of (get (codes "op") d) >>= λ op.
    key_of (get (codes "key") d) >>= λ key.
    expect_of (get (codes "if") d) >>= λ expect.
    part_with op key expect (get (codes "flag") d)

-- an object without other members
abbrev pub part_in : Data → Result ProposedPart Fault
part_in (object ms) = if all_known ms then part_of (object ms) else Err bad_member
part_in d = Err not_object

-- ---- sets of changes
-- `op` is the text of a set of changes
abbrev pub is_set_text : Option Data → Bool
is_set_text (Some (string s)) = bytes_eq s (codes "set")
is_set_text d = false

abbrev pub is_set : Data → Bool
is_set d = is_set_text (get (codes "op") d)

-- a part is an edit of one flag: no set stands in a set
abbrev pub part_inside : Data → Result ProposedPart Fault
part_inside d = if is_set d then Err bad_op else part_in d

abbrev pub at_place : {A : Type 0} → ℕ → Result A Fault → Result A Fault
at_place at (Ok x) = Ok x
at_place at (Err f) = Err (in_set at f)

-- the parts from this place on
abbrev pub parts_from : ℕ → Items → Result (List ProposedPart) Fault
parts_from at no_items = Ok []
parts_from at (item d ds) =
    at_place at (part_inside d) >>= λ p.
    parts_from (suc at) ds >>= λ ps.
    Ok (p ∷ ps)

-- no key twice, and not too long
abbrev pub joined : List ProposedPart → Result Proposal Fault
joined ps = if is_none (set_fault (parts_of ps)) then Ok (joint ps) else Err bad_set

-- `edits`: a list of parts, neither none nor too many
unfoldable pub set_of : Option Data → Result Proposal Fault
set_of (Some (array ds)) =
    if is_count (items_len ds) then parts_from 0 ds >>= joined else Err bad_set
set_of d = Err bad_set

abbrev pub is_known_in_set : List ℕ → Bool
is_known_in_set name = bytes_eq name (codes "edits") || bytes_eq name (codes "op")

abbrev pub all_known_in_set : Members → Bool
all_known_in_set no_members = true
all_known_in_set (member name d ms) = is_known_in_set name && all_known_in_set ms

abbrev pub set_in : Members → Result Proposal Fault
set_in ms = if all_known_in_set ms then set_of (get (codes "edits") (object ms)) else Err bad_member

-- ---- lines
-- an object that is an edit of one flag, or a set of changes
abbrev pub edit_in : Data → Result Proposal Fault
edit_in (object ms) = if is_set (object ms) then set_in ms
    else (part_in (object ms) >>= λ p. Ok (single p))
edit_in d = Err not_object

-- JSON that isn't too long
unfoldable pub line_of : List ℕ → Result Proposal Fault
line_of line = if nat_le (length line) LONGEST_LINE then must (json_of line) not_json >>= edit_in
    else Err too_long
