-- Fronts of one store's edits, of which one begins the other.
use Rattle.std.specs.Prelude.{◌≡◌}
use mathlib.Core.List.{IsPrefix}
use Rattle.fp_group_commit.specs.Tokens.{FrontState}

-- both are of one store, and the edits of the first begin those of the second
abbrev pub Begins : FrontState → FrontState → Type 0
Begins f g = (f.store ≡ g.store) × IsPrefix f.edits g.edits
