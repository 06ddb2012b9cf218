-- Which data can turn to the flag of any key without asking for memory.
use Rattle.std.specs.Prelude.{◌≡◌, ◌≤◌, ℕ, List, String, Some, codes, string_bytes}
use Rattle.std.specs.Ordering.{nat_cmp}
use Rattle.std.specs.BTreeMap.{is_at}
use Rattle.std.specs.Cmp.Lexicographic.{slice_cmp}
use Rattle.std.specs.Map.{lookup}
use Rattle.std.specs.declared.alloc.Global.{Global}
use Rattle.fp_operators.specs.declared.datum.Datum.{Datum, out-Datum}
use Rattle.fp_operators.specs.declared.datum.Datum.TheOpen.{Datum-F}
use Rattle.fp_operators.specs.KeptText.{TextState}
use Rattle.fp_targeting.specs.Numbers.{ROOM_FOR_A_KEY}

-- what stands under this name, if anything does, is as wanted
abbrev pub IsUnder : List ℕ → (Datum → Type 0) → List (String Global × Datum) → Type 0
IsUnder name Wanted es =
    (d : Datum) → lookup (is_at (λ s. slice_cmp nat_cmp name (string_bytes s))) es ≡ Some d
    → Wanted d

abbrev pub IsText : (TextState → Type 0) → Datum-F Datum → Type 0
IsText Wanted (Datum-F.Text t) = Wanted t
IsText Wanted other = Unit {0}

abbrev pub IsObject : (List (String Global × Datum) → Type 0) → Datum-F Datum → Type 0
IsObject Wanted (Datum-F.Object ms) = Wanted ms.entries
IsObject Wanted other = Unit {0}

-- this datum stands in the object under this name
abbrev pub Stands : List ℕ → Datum → Datum → Type 0
Stands name x d = IsObject (IsUnder name (λ y. y ≡ x)) (out-Datum d)

-- a text has room for a key of any flag
abbrev pub KeyHasRoom : Datum → Type 0
KeyHasRoom d = IsText (λ t. ROOM_FOR_A_KEY ≤ t.room) (out-Datum d)

-- so has the one that stands in a flag's data as its key
abbrev pub FlagHasRoom : Datum → Type 0
FlagHasRoom d = IsObject (IsUnder (codes "flagKey") KeyHasRoom) (out-Datum d)

-- so has the one that stands in the data of a context
abbrev pub HasRoom : Datum → Type 0
HasRoom d = IsObject (IsUnder (codes "$flagd") FlagHasRoom) (out-Datum d)
