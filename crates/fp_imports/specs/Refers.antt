-- Whether a reference stands in data.
use Rattle.std.specs.Prelude.{Bool, false, ◌||◌, is_some}
use Rattle.serde_json.specs.Data.{Data, null, boolean, number, string, array, object, Items}
use Rattle.serde_json.specs.Data.{no_items, item, Members, no_members, member}
use Rattle.fp_imports.specs.References.{reference}

abbrev mutual
  pub refers : Data → Bool
  refers null = false
  refers (boolean b) = false
  refers (number n) = false
  refers (string s) = false
  refers (array ds) = items_refer ds
  refers (object ms) = is_some (reference ms) || members_refer ms

  pub items_refer : Items → Bool
  items_refer no_items = false
  items_refer (item d ds) = refers d || items_refer ds

  pub members_refer : Members → Bool
  members_refer no_members = false
  members_refer (member k d ms) = refers d || members_refer ms
