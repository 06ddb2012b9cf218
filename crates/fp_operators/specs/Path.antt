-- What paths name in data.
use Rattle.std.specs.Prelude.{ℕ, zero, suc, List, [], ◌∷◌, ◌==◌, bytes_eq, Option, Some, None}
use Rattle.std.specs.Prelude.{option_and_then, if◌then◌else◌}
use Rattle.std.specs.List.{slice_split}
use Rattle.std.specs.Fmt.{signed_decimal}
use Rattle.fp_operators.specs.Data.{Data, null, boolean, whole, text, list, object, Items, no_items}
use Rattle.fp_operators.specs.Data.{item, Members, no_members, member}
use Rattle.fp_operators.specs.Numeral.{place_of}

-- a path's parts, between its dots
abbrev pub parts : List ℕ → List (List ℕ)
parts path = slice_split (λ b. b == 46) path

abbrev pub item_at : ℕ → Items → Option Data
item_at n no_items = None
item_at zero (item d ds) = Some d
item_at (suc n) (item d ds) = item_at n ds

abbrev pub member_at : List ℕ → Members → Option Data
member_at k no_members = None
member_at k (member l e ms) = if bytes_eq k l then Some e else member_at k ms

-- what one part names: an item of a list by its place, a member of an object by its name
abbrev pub step_to : List ℕ → Data → Option Data
step_to part null = None
step_to part (boolean b) = None
step_to part (whole z) = None
step_to part (text s) = None
step_to part (list ds) = option_and_then (λ i. item_at i ds) (place_of part)
step_to part (object ms) = member_at part ms

abbrev pub follow : List (List ℕ) → Data → Option Data
follow [] d = Some d
follow (p ∷ ps) d = option_and_then (follow ps) (step_to p d)

-- the empty text names all data
abbrev pub at_text : List ℕ → Data → Option Data
at_text [] root = Some root
at_text (b ∷ bs) root = follow (parts (b ∷ bs)) root

-- what a datum names: a text or a number its path, null all data
abbrev pub named_by : Data → Data → Option Data
named_by null root = Some root
named_by (text s) root = at_text s root
named_by (whole z) root = at_text (signed_decimal z) root
named_by (boolean b) root = None
named_by (list ds) root = None
named_by (object ms) root = None

abbrev pub found_or : Data → Option Data → Data
found_or default None = default
found_or default (Some d) = d

-- by the arguments: a path, and what stands in where it names nothing
abbrev pub variable_of : Data → List Data → Data
variable_of root [] = root
variable_of root (path ∷ []) = found_or null (named_by path root)
variable_of root (path ∷ default ∷ more) = found_or default (named_by path root)
