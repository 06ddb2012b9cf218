-- What a reply has of a definition, as it stands in the definition's text.
use Rattle.std.specs.Prelude.{◌≡◌, ◌≤◌, ℕ, List, [], ◌∷◌, Option, Some, MatchOption, codes, length}
use Rattle.std.specs.Prelude.{slice_range, ⊤, ◌&&◌, is_some, not, if◌then◌else◌}
use Rattle.std.specs.Str.{bytes_eq}
use Rattle.serde_json.specs.Data.{Data, string, object, Members, no_members, member}
use Rattle.serde_json.specs.Find.{get_member}
use Rattle.serde_json.specs.Written.{compact_text}
use Rattle.fp_definition.specs.declared.spelling.Place.{Place}
use Rattle.fp_definition.specs.declared.spelling.Places.{Places}
use Rattle.fp_definition.specs.declared.spelling.Variant.{Variant}

-- what stands at a place
abbrev pub at : List ℕ → Place → List ℕ
at text p = slice_range text p.start p.end

abbrev pub IsWithin : List ℕ → Place → Type 0
IsWithin text p = (p.start ≤ p.end) × (p.end ≤ length text)

-- the canonical text of these data, if there are any, stands there
abbrev pub IsAt : List ℕ → Place → Option Data → Type 0
IsAt text p found = (d : Data) × (found ≡ Some d) × (at text p ≡ compact_text d) × IsWithin text p

-- members, of each value its canonical text
abbrev pub texts : Members → Members
texts no_members = no_members
texts (member k d ms) = member k (string (compact_text d)) (texts ms)

-- variants as members, of each value what stands at its place, before others
abbrev pub spelled : List ℕ → List Variant → Members → Members
spelled text [] rest = rest
spelled text (v ∷ vs) rest =
    member v.name.bytes (string (at text v.value)) (spelled text vs rest)

abbrev pub AreWithin : List ℕ → List Variant → Type 0
AreWithin text [] = ⊤
AreWithin text (v ∷ vs) = IsWithin text v.value × AreWithin text vs

-- these are the variants of an object, and their values' texts stand at their places
pub record AreAt (text : List ℕ) (vs : List Variant) (ms : Members) : Type 0 where
  pub spelled : spelled text vs no_members ≡ texts ms
  pub within : AreWithin text vs

-- if the data are an object, they are its
abbrev pub AreIn : List ℕ → List Variant → Option Data → Type 0
AreIn text vs found = (ms : Members) → found ≡ Some (object ms) → AreAt text vs ms

-- what was noted of the member of a name, where some members are left: its place, or that it isn't
-- among those before
abbrev pub IsNoted : List ℕ → List ℕ → Option Place → Members → Members → Type 0
IsNoted name text p left all = MatchOption p (get_member name left ≡ get_member name all)
    (λ q. IsAt text q (get_member name all))

-- what was noted of members, of which some are left, while their text is put
pub record AreNoted (text : List ℕ) (vs : Option (List Variant)) (p : Places)
    (left all : Members) : Type 0 where
  pub variants : MatchOption vs
      (get_member (codes "variants") left ≡ get_member (codes "variants") all)
      (λ ws. AreIn text ws (get_member (codes "variants") all))
  pub metadata : IsNoted (codes "metadata") text p.metadata left all
  pub targeting : IsNoted (codes "targeting") text p.targeting left all

-- the place that is noted for a name, as a member stands at a place: that of the first of the name
abbrev pub noted_at : List ℕ → List ℕ → Place → Option Place → Option Place
noted_at name k p old = if bytes_eq k name && not (is_some old) then Some p else old
