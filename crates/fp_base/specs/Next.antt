-- What is handed out of a list or of an object, and what is left.
use Rattle.std.specs.Prelude.{ℕ, List, Option, Some, None}
use Rattle.std.specs.Borrow.{Bor}
use Rattle.serde_json.specs.Data.{Data, Items, no_items, item, Members, no_members, member}

-- all that there was: what was handed out, if anything, and what is left behind it
abbrev pub first_item : {J : Type 0} → (J → Data) → Option J → Items → Items
first_item seen None rest = no_items
first_item seen (Some d) rest = item (seen d) rest

abbrev pub first_member : {J : Type 0} → (J → Data) → Option (Bor (List ℕ) × J) → Members → Members
first_member seen None rest = no_members
first_member seen (Some m) rest = member m.0.now (seen m.1) rest
