-- The numbers of a set that its limits bind, and numbers that these don't pass.
use Rattle.std.specs.Prelude.{◌≡◌, ◌≤◌, ℕ, Option, None, MatchOption}
use Rattle.std.specs.FinMap as map
use Rattle.fp_edit.specs.Admits.{next, refusal}
use Rattle.fp_edit.specs.Edits.{Change}
use Rattle.fp_edit.specs.Flags.{State, size}
use Rattle.fp_edit.specs.Following.{unconditional}
use Rattle.fp_pending.specs.declared.tally.Tally.{Tally}

-- the numbers of a set that its limits bind
pub record Tallies (limit revision count bytes : ℕ) (s : State) : Type 0 where
  pub limit_is : limit ≡ s.limit
  pub revision_is : revision ≡ s.revision
  pub count_is : count ≡ map.len s.flags
  pub size_is : bytes ≡ size s.flags

abbrev pub IsTallyOf : Tally → State → Type 0
IsTallyOf t s = Tallies t.limit t.revision t.count t.size s

-- the numbers behind a change, exactly where the set accepts it
abbrev pub Judges : State → Change → Option Tally → Type 0
Judges s c o = MatchOption o (refusal s (unconditional c) ≡ None → ⊥)
    (λ t. (refusal s (unconditional c) ≡ None) × IsTallyOf t (next s c))

-- numbers that those of a set don't pass
pub record Bounds (limit revision count bytes : ℕ) (s : State) : Type 0 where
  pub limit_is : limit ≡ s.limit
  pub revision_is : revision ≡ s.revision
  pub few : map.len s.flags ≤ count
  pub short : size s.flags ≤ bytes

abbrev pub IsTallyAbove : Tally → State → Type 0
IsTallyAbove t s = Bounds t.limit t.revision t.count t.size s
