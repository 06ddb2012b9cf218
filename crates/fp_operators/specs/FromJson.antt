-- The data that a JSON value writes.
use Rattle.std.specs.Prelude.{ℤ, Option, Some, None}
use Rattle.serde_json.specs.Data as json
use Rattle.serde_json.specs.Find.{as_i64}
use Rattle.fp_operators.specs.Data.{Data, null, boolean, whole, text, list, object, Items, no_items}
use Rattle.fp_operators.specs.Data.{item, Members, no_members, member}

-- a number that isn't whole has no data of its own
abbrev pub whole_or_null : Option ℤ → Data
whole_or_null None = null
whole_or_null (Some z) = whole z

abbrev mutual
  pub data_of : json.Data → Data
  data_of json.null = null
  data_of (json.boolean b) = boolean b
  data_of (json.number n) = whole_or_null (as_i64 n)
  data_of (json.string s) = text s
  data_of (json.array ds) = list (items_from ds)
  data_of (json.object ms) = object (members_from ms)

  pub items_from : json.Items → Items
  items_from json.no_items = no_items
  items_from (json.item d ds) = item (data_of d) (items_from ds)

  pub members_from : json.Members → Members
  members_from json.no_members = no_members
  members_from (json.member k d ms) = member k (data_of d) (members_from ms)
