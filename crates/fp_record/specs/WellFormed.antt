-- The values that have a spelling.
use Rattle.std.specs.Prelude.{◌≡◌, ℕ, ◌+◌, ◌^◌, ◌<◌, ◌≤◌, true, List, None, length, map}
use Rattle.std.specs.List.{AllByRecursion}
use Rattle.std.specs.List.Sorted.{IsStrictlySortedBy}
use Rattle.std.specs.Str.{IsUtf8}
use Rattle.fp_base.specs.Bytes.{bytes_cmp}
use Rattle.fp_definition.specs.Key.{is_key}
use Rattle.fp_definition.specs.Valid.{is_definition_text}
use Rattle.fp_edit.specs.Changes.{set_fault}
use Rattle.fp_edit.specs.Parts.{Part, put, delete}
use Rattle.fp_edit.specs.Edits.{Change, one, set}
use Rattle.fp_edit.specs.Numbers.{REVISIONS_END}
use Rattle.fp_edit.specs.Numbers.{MOST_FLAGS}
use Rattle.fp_documents.specs.declared.flags.Flag.{Flag}
use Rattle.fp_record.specs.Group.{Group}
use Rattle.fp_record.specs.Numbers.{MOST_EDITS}

-- a flag's key
pub record IsKey (key : List ℕ) : Type 0 where
  pub long : is_key key ≡ true
  pub utf8 : IsUtf8 key

-- the canonical text of a valid definition
pub record IsText (text : List ℕ) : Type 0 where
  pub canonical : is_definition_text text ≡ true

abbrev pub IsPart : Part → Type 0
IsPart (put key text) = IsKey key × IsText text
IsPart (delete key) = IsKey key

-- a set's parts can be changed together: some and not too many, no key twice, and not too long
abbrev pub IsChange : Change → Type 0
IsChange (one part) = IsPart part
IsChange (set parts) = AllByRecursion IsPart parts × (set_fault parts ≡ None)

-- some changes and not too many, the last of them at a revision that there is
pub record IsBatch (group : Group) : Type 0 where
  pub some : 0 < length group.changes
  pub few : length group.changes ≤ MOST_EDITS
  pub revisions : group.first + length group.changes ≤ REVISIONS_END
  pub changes : AllByRecursion IsChange group.changes

-- a flag under its key
pub record IsFlag (flag : List ℕ × Flag) : Type 0 where
  pub key : IsKey flag.0
  pub some : 0 < flag.1.changed
  pub changed : flag.1.changed < 2 ^ 64
  pub text : IsText flag.1.definition

-- no more flags than a set has, in ascending order of their keys' bytes
pub record IsImage (image : List (List ℕ × Flag)) : Type 0 where
  pub few : length image ≤ MOST_FLAGS
  pub ascending : IsStrictlySortedBy bytes_cmp (map (λ f. f.0) image)
  pub flags : AllByRecursion IsFlag image

-- what an image owes beside what the types of its keys and definitions keep
pub record IsOrdered (image : List (List ℕ × Flag)) : Type 0 where
  pub few : length image ≤ MOST_FLAGS
  pub ascending : IsStrictlySortedBy bytes_cmp (map (λ f. f.0) image)
  pub changed : AllByRecursion (λ f. 0 < f.1.changed) image
