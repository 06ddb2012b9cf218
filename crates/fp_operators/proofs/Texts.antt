-- Fronts and ends of texts.
use Rattle.std.proofs.Common.{◌≡◌, ◌↔◌, ℕ, List, ◌++◌, length, take, drop, ◌-◌, true, eqb, refl}
use Rattle.std.specs.List.{starts_with, ends_with}
use Rattle.std.proofs.lemmas.Bool.Decides.{Decides-eqb}
use Rattle.std.proofs.lemmas.Slice.Eq.{starts_is, ends_is}
use Rattle.fp_operators.specs.Data.{text}
use Rattle.fp_operators.specs.Text.{has_prefix, has_suffix}

pub prefix_first : (s t : List ℕ) → (has_prefix (text s) (text t) ≡ true) ↔ ((after : List ℕ) × (s ≡ t ++ after))
prefix_first s t =
    let both = starts_is Decides-eqb s t (starts_with eqb s t) refl in
    (λ h. (drop (length t) s, both.0 h), λ k. both.1 k.0 k.1)

pub suffix_last : (s t : List ℕ) → (has_suffix (text s) (text t) ≡ true) ↔ ((before : List ℕ) × (s ≡ before ++ t))
suffix_last s t =
    let both = ends_is Decides-eqb s t (ends_with eqb s t) refl in
    (λ h. (take (length s - length t) s, both.0 h), λ k. both.1 k.0 k.1)
