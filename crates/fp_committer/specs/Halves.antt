-- Two halves that can be held apart, and agree.
-- Each owns a list of all changes that were drawn and one of those that were settled, and has a
-- beginning of each list of the other's. Where both are at hand each begins the other, so they are equal
use Rattle.std.specs.Prelude.{◌≡◌, ℕ, List}
use Rattle.fp_edit.specs.Edits.{Change}

-- what its two lists are called
pub record Names : Type 0 where
  pub all : ℕ
  pub settled : ℕ

-- its own lists and the other's, by name; all that was drawn, and what of it is settled
pub record HalfState : Type 0 where
  pub own : Names
  pub there : Names
  pub all : List Change
  pub settled : List Change

-- each is the other's counterpart
abbrev pub ArePair : HalfState → HalfState → Type 0
ArePair a b = (b.own ≡ a.there) × (b.there ≡ a.own)
