-- What a batch says.
use Rattle.std.specs.Prelude.{ℕ, List}
use Rattle.fp_edit.specs.Edits.{Change}

-- changes under consecutive revisions, the first of which is named
pub record Group : Type 0 where
  pub first : ℕ
  pub changes : List Change
