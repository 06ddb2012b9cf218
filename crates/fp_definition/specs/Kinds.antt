-- Kinds of JSON data, and members that are of one kind.
use Rattle.std.specs.Prelude.{Bool, true, false, ◌&&◌, ◌||◌}
use Rattle.serde_json.specs.Data.{Data, boolean, number, string, object}
use Rattle.serde_json.specs.Data.{Members, no_members, member}
use Rattle.fp_definition.specs.declared.kind.Kind.{Kind}
use Rattle.fp_definition.specs.declared.kind.Kind.TheVariants.{Boolean, Text, Number, Object}

abbrev pub is_kind : Kind → Data → Bool
is_kind Boolean (boolean b) = true
is_kind Text (string s) = true
is_kind Number (number n) = true
is_kind Object (object ms) = true
is_kind k d = false

-- each member is of this kind
abbrev pub all_kind : Kind → Members → Bool
all_kind k no_members = true
all_kind k (member name d ms) = is_kind k d && all_kind k ms

-- there is a kind that each member is of
abbrev pub one_kind : Members → Bool
one_kind ms =
    all_kind Boolean ms || (all_kind Text ms || (all_kind Number ms || all_kind Object ms))

abbrev pub is_scalar : Data → Bool
is_scalar d = is_kind Boolean d || is_kind Text d || is_kind Number d

-- each member is a boolean, a text or a number
abbrev pub all_scalars : Members → Bool
all_scalars no_members = true
all_scalars (member name d ms) = is_scalar d && all_scalars ms
