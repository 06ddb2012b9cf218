-- Versions and the grammar of their texts.
use Rattle.std.proofs.Common.{length, ◌==◌, false, rules, ◌≡◌, ◌↔◌, ℕ, List, [], ◌∷◌, true, Some, Result, Ok, Err, refl, sym, ap, ◌∙◌}
use Rattle.std.specs.Ordering.{is_lt}
use Rattle.std.proofs.lemmas.Cmp.{nat_cmp_total, tied_itself}
use Rattle.semver.specs.Parse.{Parts, version_parts}
use Rattle.semver.specs.OrderLaws.{pre_cmp-right}
use Rattle.semver.specs.Grammar.{IsValid}
use Rattle.semver.specs.Identifiers.{parts_text}
use Rattle.semver.proofs.Grammar.{version_parts-sound, version_parts-complete}
use Rattle.fp_operators.specs.Version.{without_v, with_zero_groups, read_parts, version_of, precedence, holds}
use Rattle.fp_operators.specs.Laws.{SameButBuild}

read : {E : Type 0} (r : Result Parts E) (p : Parts) → read_parts r ≡ Some p → r ≡ Ok p
read (Ok q) p h = cc h
read (Err e) p h = cc h

pub version_grammar : (bs : List ℕ) (p : Parts) → (version_of bs ≡ Some p) ↔ (IsValid p × (parts_text p ≡ with_zero_groups (without_v bs)))
version_grammar bs p = (
  λ h. let both = version_parts-sound (with_zero_groups (without_v bs)) p
      (read (version_parts (with_zero_groups (without_v bs))) p h) in (both.1, both.0),
  λ k. ap (λ t. read_parts (version_parts t)) (sym k.1) ∙ ap read_parts (version_parts-complete p k.0),
)

pub build_ignored : (op : List ℕ) (p q r : Parts) → SameButBuild p q → (holds op p r ≡ holds op q r) × (holds op r p ≡ holds op r q)
build_ignored op p q r same = (
  rw (same.major, same.minor, same.patch, same.pre_release) refl,
  rw (same.major, same.minor, same.patch, same.pre_release) refl,
)

not_empty : (b : ℕ) (bs : List ℕ) → (length (b ∷ bs) == 0) ≡ false
not_empty b bs = search rules

pub pre_release_first : (major minor patch b : ℕ) (bs build other : List ℕ) →
    is_lt (precedence (major, minor, patch, b ∷ bs, build) (major, minor, patch, [], other)) ≡ true
pre_release_first major minor patch b bs build other =
    rw (
      tied_itself nat_cmp_total major,
      tied_itself nat_cmp_total minor,
      tied_itself nat_cmp_total patch,
      pre_cmp-right (b ∷ bs) [] (not_empty b bs) refl,
    ) refl
