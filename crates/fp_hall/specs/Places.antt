-- Where a change stands among a store's edits.
use Rattle.std.specs.Prelude.{◌≡◌, ◌+◌, ℕ, List, ◌∷◌, ◌++◌, length}
use Rattle.fp_edit.specs.Edits.{Change}
use Rattle.fp_group_commit.specs.Tokens.{FrontState}

-- it is the one that makes this revision
pub record StandsAt (f : FrontState) (revision : ℕ) (change : Change) : Type 0 where
  pub before : List Change
  pub after : List Change
  pub there : f.edits ≡ before ++ change ∷ after
  pub place : revision ≡ f.store.start.revision + length before + 1
