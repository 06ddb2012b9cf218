-- Reading batches and images forward, field by field.
use Rattle.std.specs.Prelude.{ℕ, zero, suc, ◌+◌, ◌-◌, ◌^◌, Bool, ◌&&◌, List, [], ◌∷◌, ◌++◌, length}
use Rattle.std.specs.Prelude.{nat_le, ◌==◌, Result, Ok, Err, if◌then◌else◌}
use Rattle.std.specs.Int.{w8, w16, w32, w64}
use Rattle.std.specs.Ordering.{is_lt}
use Rattle.fp_base.specs.Bytes.{bytes_cmp}
use Rattle.fp_base.specs.Steps.{◌>>=◌}
use Rattle.fp_edit.specs.Changes.{is_among, is_count}
use Rattle.fp_edit.specs.Parts.{Part, put, delete, part_key}
use Rattle.fp_edit.specs.Edits.{Change, one, set}
use Rattle.fp_edit.specs.Numbers.{LONGEST_EDIT}
use Rattle.fp_edit.specs.Numbers.{REVISIONS_END}
use Rattle.fp_edit.specs.Numbers.{MOST_FLAGS}
use Rattle.fp_documents.specs.declared.flags.Flag.{Flag}
use Rattle.fp_record.specs.Group.{Group}
use Rattle.fp_record.specs.Numbers.{MOST_EDITS}
use Rattle.fp_record.specs.Numbers.{PUT_KIND, DELETE_KIND, SET_KIND}
use Rattle.fp_record.specs.Fields.{number_at, key_at, definition_at}

-- a key that none of these is; one that is, is wrong at its first byte, which is behind the two of
-- its length
unfoldable pub new_key_at : List (List ℕ) → List ℕ → ℕ → Result (List ℕ × ℕ) ℕ
new_key_at before bytes at = do
  key ← key_at bytes at
  if is_among key.0 before then Err (at + 2) else Ok key

-- the put of this key with the definition that is there
abbrev pub put_with : List ℕ → List ℕ → ℕ → Result (Part × ℕ) ℕ
put_with key bytes at = do
  text ← definition_at bytes at
  Ok (put key text.0, text.1)

unfoldable pub put_at : List (List ℕ) → List ℕ → ℕ → Result (Part × ℕ) ℕ
put_at before bytes at = do
  key ← new_key_at before bytes at
  put_with key.0 bytes key.1

unfoldable pub delete_at : List (List ℕ) → List ℕ → ℕ → Result (Part × ℕ) ℕ
delete_at before bytes at = do
  key ← new_key_at before bytes at
  Ok (delete key.0, key.1)

-- a change to one flag, whose key is none of these
unfoldable pub part_at : List (List ℕ) → List ℕ → ℕ → Result (Part × ℕ) ℕ
part_at before bytes at = do
  kind ← number_at w8 bytes at
  if kind.0 == PUT_KIND then put_at before bytes kind.1
      else if kind.0 == DELETE_KIND then delete_at before bytes kind.1 else Err at

-- that many of what step reads, one after the other
unfoldable pub many_from : {A S : Type 0} → (S → Result (A × S) ℕ) → ℕ → S → Result (List A × S) ℕ
many_from step zero s = Ok ([], s)
many_from step (suc n) s = do
  first ← step s
  others ← many_from step n first.1
  Ok (first.0 ∷ others.0, others.1)

-- the next part of a set, from the keys before it and an offset on to the keys with its own and the
-- offset behind it
unfoldable pub next_part : List ℕ → List (List ℕ) × ℕ → Result (Part × (List (List ℕ) × ℕ)) ℕ
next_part bytes from = do
  part ← part_at from.0 bytes from.1
  Ok (part.0, (from.0 ++ part_key part.0 ∷ [], part.1))

-- how many parts a set has
unfoldable pub part_count : List ℕ → ℕ → Result (ℕ × ℕ) ℕ
part_count bytes at = do
  count ← number_at w16 bytes at
  if is_count count.0 then Ok count else Err at

-- a set whose kind is at that offset: its number of parts and then its parts; one that is longer
-- than an edit may be is wrong at its kind
unfoldable pub set_at : List ℕ → ℕ → ℕ → Result (Change × ℕ) ℕ
set_at bytes kind at = do
  count ← part_count bytes at
  parts ← many_from (next_part bytes) count.0 ([], count.1)
  if nat_le parts.1.1 (kind + LONGEST_EDIT) then Ok (set parts.0, parts.1.1) else Err kind

-- an edit of one flag, or a set
unfoldable pub change_at : List ℕ → ℕ → Result (Change × ℕ) ℕ
change_at bytes at = do
  kind ← number_at w8 bytes at
  if kind.0 == SET_KIND then set_at bytes at kind.1 else do
    part ← part_at [] bytes at
    Ok (one part.0, part.1)

abbrev pub changes_at : ℕ → List ℕ → ℕ → Result (List Change × ℕ) ℕ
changes_at count bytes at = many_from (change_at bytes) count at

-- so many changes can follow that first revision
abbrev pub can_count : ℕ → ℕ → Bool
can_count first count =
    nat_le 1 count && nat_le count MOST_EDITS && nat_le (first + count) REVISIONS_END

-- how many changes there are, behind that first revision
unfoldable pub count_at : ℕ → List ℕ → ℕ → Result (ℕ × ℕ) ℕ
count_at first bytes at = do
  count ← number_at w16 bytes at
  if can_count first count.0 then Ok count else Err at

-- the batch at the front, and where it ends
unfoldable pub batch_at : List ℕ → Result (Group × ℕ) ℕ
batch_at bytes = do
  first ← number_at w64 bytes 0
  count ← count_at first.0 bytes first.1
  changes ← changes_at count.0 bytes count.1
  Ok (record { first = first.0; changes = changes.0 }, changes.1)

-- what was read, where nothing is left over
abbrev pub whole : {A : Type 0} → List ℕ → Result (A × ℕ) ℕ → Result A ℕ
whole bytes read = read >>= λ found. if found.1 == length bytes then Ok found.0 else Err found.1

unfoldable pub batch_in : List ℕ → Result Group ℕ
batch_in bytes = whole bytes (batch_at bytes)

-- ---- images

-- a key above the one before; one that isn't is wrong at its first byte, which is behind the two of
-- its length
unfoldable pub key_above_at : List ℕ → List ℕ → ℕ → Result (List ℕ × ℕ) ℕ
key_above_at before bytes at = do
  key ← key_at bytes at
  if is_lt (bytes_cmp before key.0) then Ok key else Err (at + 2)

-- the revision of a flag's last put, from 1 on and up to the newest that there may be
unfoldable pub changed_at : ℕ → List ℕ → ℕ → Result (ℕ × ℕ) ℕ
changed_at newest bytes at = do
  changed ← number_at w64 bytes at
  if nat_le 1 changed.0 && nat_le changed.0 newest then Ok changed else Err at

-- a flag, from the key before and an offset on to its own key and the offset behind it
unfoldable pub flag_at :
    ℕ → List ℕ → List ℕ × ℕ → Result ((List ℕ × Flag) × (List ℕ × ℕ)) ℕ
flag_at newest bytes from = do
  key ← key_above_at from.0 bytes from.1
  changed ← changed_at newest bytes key.1
  text ← definition_at bytes changed.1
  Ok ((key.0, record { definition = text.0; changed = changed.0 }), (key.0, text.1))

-- that many flags; each key is above the one of no bytes
unfoldable pub flags_at : ℕ → ℕ → List ℕ → ℕ → Result (List (List ℕ × Flag) × ℕ) ℕ
flags_at newest count bytes at = do
  flags ← many_from (flag_at newest bytes) count ([], at)
  Ok (flags.0, flags.1.1)

-- how many flags there are
unfoldable pub flag_count : List ℕ → Result (ℕ × ℕ) ℕ
flag_count bytes = do
  count ← number_at w32 bytes 0
  if nat_le count.0 MOST_FLAGS then Ok count else Err 0

-- the image at the front, whose flags were changed at the newest revision or before, and where it
-- ends
unfoldable pub image_at : ℕ → List ℕ → Result (List (List ℕ × Flag) × ℕ) ℕ
image_at newest bytes = do
  count ← flag_count bytes
  flags_at newest count.0 bytes count.1

unfoldable pub image_in : ℕ → List ℕ → Result (List (List ℕ × Flag)) ℕ
image_in newest bytes = whole bytes (image_at newest bytes)

-- the greatest number that eight bytes can tell: up to it, no revision is too new
abbrev pub any_revision : ℕ
any_revision = 2 ^ 64 - 1
