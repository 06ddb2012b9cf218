-- A number of bytes that the canonical text of data has at least.
use Rattle.std.specs.Prelude.{ℕ, ◌+◌, length}
use Rattle.serde_json.specs.Data.{Data, null, boolean, number, string, array, object, Items}
use Rattle.serde_json.specs.Data.{no_items, item, Members, no_members, member}

abbrev mutual
  -- the bytes of all texts and names in it, and one for each item and member
  pub weight : Data → ℕ
  weight null = 0
  weight (boolean b) = 0
  weight (number n) = 0
  weight (string s) = length s
  weight (array ds) = items_weight ds
  weight (object ms) = members_weight ms

  pub items_weight : Items → ℕ
  items_weight no_items = 0
  items_weight (item d ds) = 1 + weight d + items_weight ds

  pub members_weight : Members → ℕ
  members_weight no_members = 0
  members_weight (member k d ms) = 1 + length k + weight d + members_weight ms
