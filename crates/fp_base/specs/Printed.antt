-- Data whose canonical text is UTF-8, with numbers of RFC 8259 in it.
use Rattle.std.specs.Prelude.{Bool}
use Rattle.std.specs.Str.{IsUtf8}
use Rattle.json.specs.Tree.{HasNumbers, ItemsHaveNumbers, MembersHaveNumbers}
use Rattle.serde_json.specs.Data.{Data, Items, Members}
use Rattle.serde_json.specs.Written.{compact_text, items_text, members_text}
use Rattle.serde_json.specs.Written.{outline, items_outline, members_outline}

abbrev pub IsPrinted : Data → Type 0
IsPrinted d = IsUtf8 (compact_text d) × HasNumbers (outline d)

-- the same of items, behind others or not, with the bracket that ends them
abbrev pub AreItemsPrinted : Bool → Items → Type 0
AreItemsPrinted later ds = IsUtf8 (items_text later ds) × ItemsHaveNumbers (items_outline ds)

abbrev pub AreMembersPrinted : Bool → Members → Type 0
AreMembersPrinted later ms = IsUtf8 (members_text later ms) × MembersHaveNumbers (members_outline ms)
