-- The flags of a document, one after another.
use Rattle.std.specs.Prelude.{◌≡◌, ℕ, ◌+◌, List, Some, true, map}
use Rattle.std.specs.FinMap as fin
use Rattle.std.specs.Str.{IsUtf8}
use Rattle.json.specs.Print.{quoted}
use Rattle.serde_json.specs.Data.{string}
use Rattle.fp_base.specs.Json.{json_of}
use Rattle.fp_definition.specs.Key.{is_key}
use Rattle.fp_definition.specs.Numbers.{LONGEST_DEFINITION, LONGEST_KEY}
use Rattle.fp_definition.specs.Valid.{is_definition_text}
use Rattle.fp_documents.specs.Numbers.{FLAG_FRAME}
use Rattle.fp_documents.specs.declared.flags.Flag.{Flag}
use Rattle.fp_edit.specs.Flags.{Flags, State}
use Rattle.fp_shown.specs.declared.members.Member.{Member}

-- the bytes of an image that one flag takes at most
abbrev pub LONGEST_FLAG : ℕ
LONGEST_FLAG = FLAG_FRAME + LONGEST_KEY + LONGEST_DEFINITION

-- keys and definitions, which are all that a document tells
abbrev pub told_of : List ℕ × Flag → List ℕ × List ℕ
told_of e = (e.0, e.1.definition)

abbrev pub told : Flags → List (List ℕ × List ℕ)
told flags = map told_of (fin.entries flags)

-- a member of this name and this value, and what is behind it
pub record IsMember (name value rest : List ℕ) (m : Member) : Type 0 where
  pub named : m.name.now ≡ name
  pub valued : m.value.now ≡ value
  pub behind : m.rest.now ≡ rest

-- a name and a value are those of a flag in a document
pub record SpellsFlag (name value key : List ℕ) : Type 0 where
  pub long : is_key key ≡ true
  pub utf8 : IsUtf8 key
  pub named : name ≡ quoted key
  pub definition : is_definition_text value ≡ true

-- a flag was put, whose key a name spells and whose definition a value is, as of the set's revision
pub record PutsFlag (old : State) (name value : List ℕ) (new : State) : Type 0 where
  pub key : List ℕ
  pub named : json_of name ≡ Some (string key)
  pub long : is_key key ≡ true
  pub definition : is_definition_text value ≡ true
  pub put : new ≡ record {
    flags = fin.insert old.flags key (record { definition = value; changed = old.revision });
    revision = old.revision;
    limit = old.limit;
  }
