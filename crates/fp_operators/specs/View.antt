-- The data that a `Datum` stands for.
use Rattle.std.specs.Prelude.{List, [], ◌∷◌, map, String, string_bytes}
use Rattle.std.specs.declared.alloc.Global.{Global}
use Rattle.fp_operators.specs.Data.{Data, null, boolean, whole, text, list, object, Items, no_items}
use Rattle.fp_operators.specs.Data.{item, Members, no_members, member}
use Rattle.fp_operators.specs.declared.datum.Datum.{Datum, fold-Datum}
use Rattle.fp_operators.specs.declared.datum.Datum.TheOpen.{Datum-F}

abbrev pub items_of : List Data → Items
items_of [] = no_items
items_of (d ∷ ds) = item d (items_of ds)

abbrev pub members_of : List (String Global × Data) → Members
members_of [] = no_members
members_of (m ∷ ms) = member (string_bytes m.0) m.1 (members_of ms)

abbrev pub view_step : Datum-F Data → Data
view_step Datum-F.Null = null
view_step (Datum-F.Bool b) = boolean b
view_step (Datum-F.Whole z) = whole z
view_step (Datum-F.Text s) = text s.bytes
view_step (Datum-F.List v) = list (items_of v.items)
view_step (Datum-F.Object m) = object (members_of m.entries)

abbrev pub view : Datum → Data
view = fold-Datum Data view_step

abbrev pub items_view : List Datum → Items
items_view ds = items_of (map view ds)

abbrev pub members_view : List (String Global × Datum) → Members
members_view ms = members_of (map (λ m. (m.0, view m.1)) ms)
