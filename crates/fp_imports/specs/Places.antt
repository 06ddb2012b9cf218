-- Where members of a tree stand.
use Rattle.std.specs.Prelude.{◌≡◌, ◌<◌, ℕ, List, length, get_or}
use Rattle.fp_base.specs.TreeView.{Entry}

-- a member of that name stands there
pub record IsPlaceOf (name : List ℕ) (ms : List Entry) (at : ℕ) : Type 0 where
  pub within : at < length ms
  pub named : (m : Entry) → m ≡ get_or ms at m → m.0.now ≡ name
