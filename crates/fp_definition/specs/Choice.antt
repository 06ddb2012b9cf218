-- What a definition chooses from.
use Rattle.std.specs.Prelude.{◌≡◌, ℕ, List, codes, true, None, Some, MatchOption, is_some}
use Rattle.serde_json.specs.Data.{Data, Members, object, string}
use Rattle.serde_json.specs.Find.{as_object, get}
use Rattle.fp_base.specs.Sorted.{IsSorted}
use Rattle.fp_definition.specs.Resolving.{is_disabled}
use Rattle.fp_definition.specs.Spelled.{AreAt, IsAt}
use Rattle.fp_definition.specs.Valid.{is_state, are_variants, names_variant, is_metadata}
use Rattle.fp_definition.specs.declared.choice.Choice.{Choice}

-- whether it is disabled and its default are those of the data, and its variants, its metadata and
-- its targeting stand in their text
pub record IsChoice (d : Data) (text : List ℕ) (c : Choice) : Type 0 where
  pub disabled : c.is_disabled ≡ is_disabled (get (codes "state") d)
  pub default : get (codes "defaultVariant") d ≡ Some (string c.default.bytes)
  pub members : Members
  pub variants : get (codes "variants") d ≡ Some (object members)
  pub sorted : IsSorted members
  pub values : AreAt text c.variants.items members
  pub metadata : MatchOption c.places.metadata (get (codes "metadata") d ≡ None)
      (λ p. IsAt text p (get (codes "metadata") d))
  pub targeting : MatchOption c.places.targeting (get (codes "targeting") d ≡ None)
      (λ p. IsAt text p (get (codes "targeting") d))

-- the data meet the tests of their members, but for that of `targeting`
pub record MeetsTests (d : Data) : Type 0 where
  pub members : is_some (as_object d) ≡ true
  pub state : is_state (get (codes "state") d) ≡ true
  pub variants : are_variants (get (codes "variants") d) ≡ true
  pub default : names_variant (get (codes "defaultVariant") d) (get (codes "variants") d) ≡ true
  pub metadata : is_metadata (get (codes "metadata") d) ≡ true
