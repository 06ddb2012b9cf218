-- JSON data whose numbers are whole.
use Rattle.std.specs.Prelude.{Bool, true, ◌&&◌, is_some}
use Rattle.serde_json.specs.Data.{Data, null, boolean, number, string, array, object, Items}
use Rattle.serde_json.specs.Data.{no_items, item, Members, no_members, member}
use Rattle.serde_json.specs.Find.{as_i64}

abbrev mutual
  -- each number in the data is an integer from -2^63 to 2^63-1, written as one
  pub is_whole : Data → Bool
  is_whole null = true
  is_whole (boolean b) = true
  is_whole (number n) = is_some (as_i64 n)
  is_whole (string s) = true
  is_whole (array ds) = items_whole ds
  is_whole (object ms) = members_whole ms

  pub items_whole : Items → Bool
  items_whole no_items = true
  items_whole (item d ds) = is_whole d && items_whole ds

  pub members_whole : Members → Bool
  members_whole no_members = true
  members_whole (member k d ms) = is_whole d && members_whole ms
