-- Where a name belongs among members in ascending order of their names.
use Rattle.std.specs.Prelude.{◌≡◌, ◌≢◌, ◌≤◌, ℕ, List, [], ◌∷◌, Bool, false, take, drop, length, ⊤}
use Rattle.std.specs.Str.{bytes_eq}
use Rattle.std.specs.Ordering.{nat_cmp}
use Rattle.std.specs.declared.cmp.Ordering.TheVariants.{Less}
use Rattle.std.specs.Cmp.Lexicographic.{slice_cmp}
use Rattle.fp_base.specs.TreeView.{Entry}

-- each comes before the name
abbrev pub AreBefore : List ℕ → List Entry → Type 0
AreBefore name [] = ⊤
AreBefore name (m ∷ ms) = (slice_cmp nat_cmp m.0.now name ≡ Less) × AreBefore name ms

-- the first of them doesn't
abbrev pub IsNotBefore : List ℕ → List Entry → Type 0
IsNotBefore name [] = ⊤
IsNotBefore name (m ∷ ms) = slice_cmp nat_cmp m.0.now name ≢ Less

-- the first of them has the name
abbrev pub first_is_named : List ℕ → List Entry → Bool
first_is_named name [] = false
first_is_named name (m ∷ ms) = bytes_eq m.0.now name

-- the name's place is behind those that come before it
pub record IsPlaceOf (name : List ℕ) (ms : List Entry) (at : ℕ) : Type 0 where
  pub within : at ≤ length ms
  pub before : AreBefore name (take at ms)
  pub behind : IsNotBefore name (drop at ms)
