-- Definitions that are read beside another, whose `targeting` they may have.
use Rattle.std.specs.Prelude.{◌≡◌, ◌≤◌, ℕ, List, [], ◌∷◌, true, false, Option, None, Some, codes}
use Rattle.std.specs.Prelude.{is_some, if◌then◌else◌, IsSome, ◌⊎◌}
use Rattle.std.specs.Borrow.{Bor}
use Rattle.std.specs.Str.{bytes_eq}
use Rattle.serde_json.specs.Data.{Data, depth, object, Members, no_members, member}
use Rattle.serde_json.specs.Find.{as_object, get}
use Rattle.serde_json.specs.Written.{compact_text}
use Rattle.fp_base.specs.Json.{json_of}
use Rattle.fp_base.specs.Ordered.{IsOrdered}
use Rattle.fp_base.specs.TreeView.{Entry, tree_view}
use Rattle.fp_base.specs.Whole.{is_whole}
use Rattle.fp_definition.specs.Numbers.{DEEPEST_DEFINITION}
use Rattle.fp_definition.specs.Resolving.{data_of}

-- the `targeting` of another definition, seen as its text
abbrev pub targeting_in : Option (Bor (List ℕ)) → Option Data
targeting_in None = None
targeting_in (Some other) = get (codes "targeting") (data_of other.now)

-- what a member is read as: itself, or where it is `targeting` the other's, if there is one
abbrev pub in_place : Option Data → List ℕ → Data → Data
in_place None name d = d
in_place (Some t) name d = if bytes_eq name (codes "targeting") then t else d

-- members as they were read, before others
abbrev pub members_with : Option Data → List Entry → Members → Members
members_with t [] rest = rest
members_with t (m ∷ ms) rest =
    member m.0.now (in_place t m.0.now (tree_view m.1)) (members_with t ms rest)

-- the object of them
abbrev pub object_with : Option (Bor (List ℕ)) → List Entry → Data
object_with other ms = object (members_with (targeting_in other) ms no_members)

-- a member is `targeting`
abbrev pub HasTargeting : List Entry → Type 0
HasTargeting [] = ⊥
HasTargeting (m ∷ ms) = (bytes_eq m.0.now (codes "targeting") ≡ true) ⊎ HasTargeting ms

-- no other was found, or one whose `targeting` the members have
abbrev pub IsTold : Option (Bor (List ℕ)) → List Entry → Type 0
IsTold other ms = (other ≡ None) ⊎ (IsSome (targeting_in other) × HasTargeting ms)

-- what was found before stays, or a member of this name is the other's `targeting`
abbrev pub IsOn : Option (Bor (List ℕ)) → Option (Bor (List ℕ)) → List ℕ → Type 0
IsOn old new name =
    (new ≡ old) ⊎ ((bytes_eq name (codes "targeting") ≡ true) × IsSome (targeting_in new))

-- the text is the canonical one of these data, whose numbers are whole, within the depth of a
-- definition
pub record IsReadAs (text : List ℕ) (d : Data) : Type 0 where
  pub spelled : text ≡ compact_text d
  pub reads : json_of text ≡ Some d
  pub ordered : IsOrdered d
  pub whole : is_whole d ≡ true
  pub flat : depth d ≤ DEEPEST_DEFINITION

-- the data have the same members, but for `targeting`
pub record AreAlike (d e : Data) : Type 0 where
  pub objects : is_some (as_object d) ≡ is_some (as_object e)
  pub members : (name : List ℕ) → bytes_eq name (codes "targeting") ≡ false → get name d ≡ get name e

-- what is taken for the `targeting` of data: the other's, if there is one
abbrev pub targeting_beside : Option (Bor (List ℕ)) → Data → Option Data
targeting_beside None d = get (codes "targeting") d
targeting_beside (Some other) d = get (codes "targeting") (data_of other.now)
