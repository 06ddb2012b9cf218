-- Data whose numbers are whole, which nest within a limit and weigh within another.
use Rattle.std.specs.Prelude.{ℕ, nat_le, Option, None, ◌&&◌, if◌then◌else◌}
use Rattle.serde_json.specs.Data.{Data, depth, Items, items_depth, Members, members_depth}
use Rattle.fp_base.specs.Count.{spend}
use Rattle.fp_base.specs.Weight.{weight, items_weight, members_weight}
use Rattle.fp_base.specs.Whole.{is_whole, items_whole, members_whole}

-- the bytes that their weight leaves of so many, where they are
abbrev pub plain_left : ℕ → ℕ → Data → Option ℕ
plain_left limit bytes d = if is_whole d && nat_le (depth d) limit then spend bytes (weight d) else None

abbrev pub items_plain_left : ℕ → ℕ → Items → Option ℕ
items_plain_left limit bytes ds = if items_whole ds && nat_le (items_depth ds) limit then spend bytes (items_weight ds) else None

abbrev pub members_plain_left : ℕ → ℕ → Members → Option ℕ
members_plain_left limit bytes ms = if members_whole ms && nat_le (members_depth ms) limit then spend bytes (members_weight ms) else None
