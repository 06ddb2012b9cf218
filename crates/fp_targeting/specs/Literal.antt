-- JSON values that stand for themselves.
use Rattle.std.specs.Prelude.{ℤ, Bool, true, false, Option, Some, None, if◌then◌else◌}
use Rattle.serde_json.specs.Data as json
use Rattle.fp_operators.specs.Data.{Data, null, boolean, whole, text, list, object}

-- the value stands for itself, whatever is in it: it is no list, and no operator's object
abbrev pub is_literal : json.Data → Bool
is_literal json.null = true
is_literal (json.boolean b) = true
is_literal (json.number n) = true
is_literal (json.string s) = true
is_literal (json.array ds) = false
is_literal (json.object json.no_members) = true
is_literal (json.object (json.member k d json.no_members)) = false
is_literal (json.object (json.member k d (json.member l e ms))) = true

-- each item stands for itself
abbrev pub all_literal : json.Items → Bool
all_literal json.no_items = true
all_literal (json.item d ds) = if is_literal d then all_literal ds else false

-- the number that a datum is
abbrev pub whole_in : Data → Option ℤ
whole_in null = None
whole_in (boolean b) = None
whole_in (whole z) = Some z
whole_in (text s) = None
whole_in (list ds) = None
whole_in (object ms) = None
