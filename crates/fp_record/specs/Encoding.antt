-- The one spelling of each batch and of each image. Numbers have their highest byte first.
use Rattle.std.specs.Prelude.{ℕ, ◌+◌, List, ◌∷◌, ◌++◌, length}
use Rattle.std.specs.List.{flat_map, sum_by}
use Rattle.std.specs.Int.{w16, w32, w64, to_be_bytes}
use Rattle.fp_edit.specs.Parts.{Part, put, delete}
use Rattle.fp_edit.specs.Edits.{Change, one, set}
use Rattle.fp_documents.specs.declared.flags.Flag.{Flag}
use Rattle.fp_record.specs.Group.{Group}
use Rattle.fp_record.specs.Numbers.{BATCH_HEAD, PUT_KIND, DELETE_KIND, SET_KIND}

-- a key behind its length
unfoldable pub encoding_of_key : List ℕ → List ℕ
encoding_of_key key = to_be_bytes w16 (length key) ++ key

-- a definition behind its length
unfoldable pub encoding_of_definition : List ℕ → List ℕ
encoding_of_definition text = to_be_bytes w32 (length text) ++ text

-- a change to one flag: its kind, and its fields
unfoldable pub encoding_of_part : Part → List ℕ
encoding_of_part (put key text) =
    PUT_KIND ∷ (encoding_of_key key ++ encoding_of_definition text)
encoding_of_part (delete key) = DELETE_KIND ∷ encoding_of_key key

-- changes that are made together: the kind of a set, their number, and each of them
unfoldable pub encoding_of_change : Change → List ℕ
encoding_of_change (one part) = encoding_of_part part
encoding_of_change (set parts) =
    SET_KIND ∷ (to_be_bytes w16 (length parts) ++ flat_map encoding_of_part parts)

-- the first revision, the count, the changes
unfoldable pub encoding_of_batch : Group → List ℕ
encoding_of_batch group = to_be_bytes w64 group.first
    ++ (to_be_bytes w16 (length group.changes) ++ flat_map encoding_of_change group.changes)

-- how long that is
abbrev pub batch_len : Group → ℕ
batch_len group = BATCH_HEAD + sum_by (λ c. length (encoding_of_change c)) group.changes

-- a flag: its key, the revision of its last put, its definition
unfoldable pub encoding_of_flag : List ℕ × Flag → List ℕ
encoding_of_flag flag = encoding_of_key flag.0
    ++ (to_be_bytes w64 flag.1.changed ++ encoding_of_definition flag.1.definition)

-- the count, the flags
unfoldable pub encoding_of_image : List (List ℕ × Flag) → List ℕ
encoding_of_image flags = to_be_bytes w32 (length flags) ++ flat_map encoding_of_flag flags
