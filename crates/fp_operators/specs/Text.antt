-- Parts of texts and of lists, and texts joined.
use Rattle.std.specs.Prelude.{ℕ, List, [], ◌∷◌, ◌++◌, Bool, true, false, ◌||◌, eqb, codes, Option}
use Rattle.std.specs.Prelude.{Some, None, option_map, option_and_then}
use Rattle.std.specs.List.{starts_with, ends_with}
use Rattle.std.specs.Fmt.{signed_decimal}
use Rattle.fp_operators.specs.Data.{Data, null, boolean, whole, text, list, object}
use Rattle.fp_operators.specs.Data.{Items, no_items, item}
use Rattle.fp_operators.specs.Equality.{strict_equality}

-- the needle begins at some place of the text
abbrev pub occurs : List ℕ → List ℕ → Bool
occurs needle [] = starts_with eqb [] needle
occurs needle (b ∷ bs) = starts_with eqb (b ∷ bs) needle || occurs needle bs

-- an item is strictly equal
abbrev pub is_among : Data → Items → Bool
is_among d no_items = false
is_among d (item e es) = strict_equality d e || is_among d es

-- a text within a text, or an item of a list
abbrev pub is_part : Data → Data → Bool
is_part (text s) (text t) = occurs s t
is_part d (list es) = is_among d es
is_part a b = false

abbrev pub has_prefix : Data → Data → Bool
has_prefix (text s) (text t) = starts_with eqb s t
has_prefix a b = false

abbrev pub has_suffix : Data → Data → Bool
has_suffix (text s) (text t) = ends_with eqb s t
has_suffix a b = false

-- the text of a scalar
abbrev pub scalar_text : Data → Option (List ℕ)
scalar_text null = Some []
scalar_text (boolean true) = Some (codes "true")
scalar_text (boolean false) = Some (codes "false")
scalar_text (whole z) = Some (signed_decimal z)
scalar_text (text s) = Some s
scalar_text (list ds) = None
scalar_text (object ms) = None

-- the texts of scalars, one behind the other
abbrev pub text_of_scalars : List Data → Option (List ℕ)
text_of_scalars [] = Some []
text_of_scalars (d ∷ ds) =
    option_and_then (λ s. option_map (λ t. s ++ t) (text_of_scalars ds)) (scalar_text d)

abbrev pub text_or_null : Option (List ℕ) → Data
text_or_null None = null
text_or_null (Some s) = text s

-- null where a list or an object is among the data
abbrev pub concatenation : List Data → Data
concatenation ds = text_or_null (text_of_scalars ds)
