-- The set that a map's entries make.
use Rattle.std.specs.Prelude.{ℕ, List, map}
use Rattle.std.specs.FinMap as fin
use Rattle.fp_definition.specs.Key.{key_bytes}
use Rattle.fp_definition.specs.declared.key.FlagKey.{FlagKey}
use Rattle.fp_documents.specs.Flags.{Flags}
use Rattle.fp_documents.specs.declared.flags.Flag.{Flag}

abbrev pub entry_of : FlagKey × Flag → List ℕ × Flag
entry_of e = (key_bytes e.0, e.1)

abbrev pub entries_of : List (FlagKey × Flag) → List (List ℕ × Flag)
entries_of es = map entry_of es

abbrev pub flags_of : List (FlagKey × Flag) → Flags
flags_of es = fin.from_entries (entries_of es)
