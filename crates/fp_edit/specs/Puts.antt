-- The changes of a set: what is put is made before what is deleted, and may be undone.
use Rattle.std.specs.Prelude.{◌≡◌, ℕ, List, [], ◌∷◌, Option, Some, None, Bool, true, false}
use Rattle.std.specs.Prelude.{◌||◌, is_some, is_none}
use Rattle.std.specs.FinMap as map
use Rattle.fp_edit.specs.Flags.{Flags}
use Rattle.fp_edit.specs.Parts.{Part, ProposedPart, put, delete}
use Rattle.fp_documents.specs.declared.flags.Flag.{Flag}

-- the parts that put a flag
abbrev pub puts_of : List Part → List Part
puts_of [] = []
puts_of (put k text ∷ ps) = put k text ∷ puts_of ps
puts_of (delete k ∷ ps) = puts_of ps

-- the parts that delete one
abbrev pub deletes_of : List Part → List Part
deletes_of [] = []
deletes_of (put k text ∷ ps) = deletes_of ps
deletes_of (delete k ∷ ps) = delete k ∷ deletes_of ps

-- some part puts a flag where there is none
abbrev pub any_new : Flags → List Part → Bool
any_new flags [] = false
any_new flags (put k text ∷ ps) = is_none (map.get flags k) || any_new flags ps
any_new flags (delete k ∷ ps) = any_new flags ps

-- where a part puts a flag there is one
abbrev pub HasPut : Flags → Part → Type 0
HasPut flags (put k text) = is_some (map.get flags k) ≡ true
HasPut flags (delete k) = Unit {0}

-- the flag that a put replaced, if there was one: its definition is at hand, and the revision that
-- changed it last
abbrev pub replaced : List ℕ → Option ℕ → Option Flag
replaced text None = None
replaced text (Some changed) = Some (record { definition = text; changed = changed })

-- a key has this flag, or none
abbrev pub with_flag : Flags → List ℕ → Option Flag → Flags
with_flag flags k None = map.remove flags k
with_flag flags k (Some f) = map.insert flags k f

abbrev pub definition_or : List ℕ → Option Flag → List ℕ
definition_or text None = text
definition_or text (Some f) = f.definition

-- the definition that was put: where it replaced one, it stands at the key
abbrev pub definition_before : Flags → List ℕ → List ℕ → Option ℕ → List ℕ
definition_before flags k text None = text
definition_before flags k text (Some changed) = definition_or text (map.get flags k)

-- flags and a change as they were before the change was put, of which the flags have the definition
-- then and the change has the replaced one
abbrev pub flags_before : Flags → Part → Option ℕ → Flags
flags_before flags (put k text) before = with_flag flags k (replaced text before)
flags_before flags (delete k) before = flags

abbrev pub part_before : Flags → Part → Option ℕ → Part
part_before flags (put k text) before = put k (definition_before flags k text before)
part_before flags (delete k) before = delete k

abbrev pub change_before : Flags → ProposedPart → Option ℕ → ProposedPart
change_before flags p before =
    record { part = part_before flags p.part before; expect = p.expect }
