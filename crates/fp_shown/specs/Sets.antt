-- Sets of flags, as far as a revision and a document tell of them.
use Rattle.std.specs.Prelude.{◌≡◌, ◌<◌, ◌≤◌, ℕ, List, All, true}
use Rattle.std.specs.FinMap as map
use Rattle.std.specs.Str.{IsUtf8}
use Rattle.fp_definition.specs.Key.{is_key}
use Rattle.fp_definition.specs.Valid.{is_definition_text}
use Rattle.fp_documents.specs.Document.{document}
use Rattle.fp_documents.specs.declared.flags.Flag.{Flag}
use Rattle.fp_edit.specs.Flags.{IsChangedBy, State}
use Rattle.fp_edit.specs.Numbers.{MOST_FLAGS, REVISIONS_END}

-- a set has this revision and this document
pub record IsSetOf (revision : ℕ) (bytes : List ℕ) (s : State) : Type 0 where
  pub at : s.revision ≡ revision
  pub spelled : document s.flags ≡ bytes

-- a flag under its key, changed by one of the edits up to a revision
pub record IsFlag (revision : ℕ) (e : List ℕ × Flag) : Type 0 where
  pub long : is_key e.0 ≡ true
  pub utf8 : IsUtf8 e.0
  pub definition : is_definition_text e.1.definition ≡ true
  pub changed : IsChangedBy revision e.1

-- what every set of flags keeps
pub record IsLawful (s : State) : Type 0 where
  -- the revision is below 2^63
  pub numbered : s.revision < REVISIONS_END
  -- there are at most 4,096 flags
  pub few : map.len s.flags ≤ MOST_FLAGS
  -- each flag has a key of 1 to 256 bytes of UTF-8 and the canonical text of a valid definition,
  -- and was changed by an edit up to the revision
  pub flags : All (IsFlag s.revision) (map.entries s.flags)

-- a set has this revision and this document, and keeps what every set keeps
abbrev pub HasSet : ℕ → List ℕ → Type 0
HasSet revision bytes = (s : State) × IsLawful s × IsSetOf revision bytes s

-- no set whatever does
abbrev pub HasNoSet : ℕ → List ℕ → Type 0
HasNoSet revision bytes = (s : State) → IsLawful s → IsSetOf revision bytes s → ⊥
