-- Documents: a set of flags as JSON.
use Rattle.std.specs.Prelude.{ℕ, List, [], ◌∷◌, codes, unwrap_or}
use Rattle.std.specs.FinMap as map
use Rattle.serde_json.specs.Data.{Data, null, object, Members, no_members, member}
use Rattle.serde_json.specs.Written.{compact_text}
use Rattle.fp_base.specs.Json.{json_of}
use Rattle.fp_documents.specs.Flags.{Flags}
use Rattle.fp_documents.specs.declared.flags.Flag.{Flag}

-- the data that a definition's text spells
abbrev pub data_of : List ℕ → Data
data_of text = unwrap_or (json_of text) null

-- a member for each flag: its key, and its definition
abbrev pub members_of : List (List ℕ × Flag) → Members
members_of [] = no_members
members_of (e ∷ es) = member e.0 (data_of e.1.definition) (members_of es)

-- the object with the one member `flags`, which has all flags in ascending order of their keys
abbrev pub document_data : Flags → Data
document_data flags =
    object (member (codes "flags") (object (members_of (map.entries flags))) no_members)

-- its canonical text
abbrev pub document : Flags → List ℕ
document flags = compact_text (document_data flags)
