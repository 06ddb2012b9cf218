-- How many values JSON data have, and budgets.
use Rattle.std.specs.Prelude.{ℕ, ◌+◌, ◌-◌, nat_le, Option, Some, None, if◌then◌else◌}
use Rattle.serde_json.specs.Data.{Data, null, boolean, number, string, array, object, Items}
use Rattle.serde_json.specs.Data.{no_items, item, Members, no_members, member}

abbrev mutual
  -- the data itself, and all that stands in it; names of members don't count
  pub count : Data → ℕ
  count null = 1
  count (boolean b) = 1
  count (number n) = 1
  count (string s) = 1
  count (array ds) = 1 + items_count ds
  count (object ms) = 1 + members_count ms

  pub items_count : Items → ℕ
  items_count no_items = 0
  items_count (item d ds) = count d + items_count ds

  pub members_count : Members → ℕ
  members_count no_members = 0
  members_count (member k d ms) = count d + members_count ms

-- the rest of a budget after a cost, where the budget covers it
abbrev pub spend : ℕ → ℕ → Option ℕ
spend budget cost = if nat_le cost budget then Some (budget - cost) else None
