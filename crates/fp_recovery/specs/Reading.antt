-- Reading an image, or a batch over a set, forward and field by field: what is read, or the place
-- of the first field that can't stand there. Each test stands where its field does.
use Rattle.std.specs.Prelude.{ℕ, zero, suc, ◌+◌, Bool, not, ◌&&◌, ◌||◌, List, length, take, nat_lt}
use Rattle.std.specs.Prelude.{nat_le, ◌==◌, Option, None, Some, Result, Ok, Err, if◌then◌else◌}
use Rattle.std.specs.Int.{w8, w64}
use Rattle.fp_base.specs.Steps.{◌>>=◌}
use Rattle.fp_edit.specs.Admits.{refusal, next}
use Rattle.fp_edit.specs.Changes.{set_len}
use Rattle.fp_edit.specs.Edits.{Change, parts}
use Rattle.fp_edit.specs.Flags.{State}
use Rattle.fp_edit.specs.declared.edit.EditFault.{EditFault}
use Rattle.fp_edit.specs.declared.edit.EditFault.TheVariants.{Conflict, ConflictIn, SetTooLarge}
use Rattle.fp_edit.specs.declared.edit.EditFault.TheVariants.{RevisionsUsed, Memory}
use Rattle.fp_edit.specs.Numbers.{REVISIONS_END}
use Rattle.fp_documents.specs.declared.flags.Flag.{Flag}
use Rattle.fp_record.specs.Fields.{number_at}
use Rattle.fp_record.specs.Reading.{change_at, count_at, image_in, whole}
use Rattle.fp_record.specs.Numbers.{SET_KIND}
use Rattle.fp_edit.specs.Following.{unconditional}
use Rattle.fp_slots.specs.Numbers.{FIRST_VERSION}

-- the flags of an image of this revision, none of them newer; the image is no longer than the limit
unfoldable pub image_under : ℕ → ℕ → List ℕ → Result (List (List ℕ × Flag)) ℕ
image_under base limit bytes =
    if nat_lt base REVISIONS_END && nat_le (length bytes) limit then image_in base bytes else Err 0

-- an edit of this kind may stand in a slot of this version: those of the first have no sets of
-- changes
abbrev pub may_stand : ℕ → ℕ → Bool
may_stand version kind = not (kind == SET_KIND) || nat_lt FIRST_VERSION version

-- the kind of the edit at this place, which has to be one of those
unfoldable pub kind_at : ℕ → List ℕ → ℕ → Result ℕ ℕ
kind_at version bytes at = do
  kind ← number_at w8 bytes at
  if may_stand version kind.0 then Ok kind.0 else Err at

-- an edit that begins at this place and that a set doesn't accept is wrong at its kind, or at that
-- of the first part that the set doesn't accept
abbrev pub wrong_at : ℕ → Change → EditFault → ℕ
wrong_at at change (ConflictIn part current) = at + set_len (take part (parts change))
wrong_at at change (Conflict current) = at
wrong_at at change SetTooLarge = at
wrong_at at change RevisionsUsed = at
wrong_at at change Memory = at

-- what the set makes of it
abbrev pub onto : State × ℕ → Change × ℕ → Option EditFault → Result (State × ℕ) ℕ
onto from found None = Ok (next from.0 found.0, found.1)
onto from found (Some fault) = Err (wrong_at from.1 found.0 fault)

-- an edit, taken by the set whatever its editor expected. All its fields pass first
unfoldable pub edit_onto : ℕ → List ℕ → State × ℕ → Result (State × ℕ) ℕ
edit_onto version bytes from = do
  kind ← kind_at version bytes from.1
  found ← change_at bytes from.1
  onto from found (refusal from.0 (unconditional found.0))

-- that many edits, each taken by what those before it made of the set
unfoldable pub edits_onto : ℕ → List ℕ → ℕ → State × ℕ → Result (State × ℕ) ℕ
edits_onto version bytes zero from = Ok from
edits_onto version bytes (suc n) from = do
  after ← edit_onto version bytes from
  edits_onto version bytes n after

-- the front of a batch that follows this revision: how many edits it has, and where they begin
unfoldable pub front_behind : ℕ → List ℕ → Result (ℕ × ℕ) ℕ
front_behind revision bytes = do
  first ← number_at w64 bytes 0
  if first.0 == revision + 1 then count_at first.0 bytes first.1 else Err 0

-- a batch that follows the set, in a slot of this version: what its edits make of it, where nothing
-- is left over
unfoldable pub batch_onto : ℕ → State → List ℕ → Result State ℕ
batch_onto version s bytes = whole bytes (do
  front ← front_behind s.revision bytes
  edits_onto version bytes front.0 (s, front.1))
