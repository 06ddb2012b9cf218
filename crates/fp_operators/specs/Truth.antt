-- Which data count as true.
use Rattle.std.specs.Prelude.{pos, Bool, true, false, not, ◌==◌, length}
use Rattle.std.specs.Ordering.{int_eq}
use Rattle.fp_operators.specs.Data.{Data, null, boolean, whole, text, list, object}
use Rattle.fp_operators.specs.Data.{Items, no_items, item}

abbrev pub has_items : Items → Bool
has_items no_items = false
has_items (item d ds) = true

-- null, false, 0, the empty text and the empty list count as false
abbrev pub truth : Data → Bool
truth null = false
truth (boolean b) = b
truth (whole z) = not (int_eq z (pos 0))
truth (text s) = not (length s == 0)
truth (list ds) = has_items ds
truth (object ms) = true
