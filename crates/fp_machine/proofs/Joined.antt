-- Texts of data, joined one after the other.
use Rattle.std.proofs.Common.{◌≡◌, ◌<◌, ◌≤◌, ◌+◌, ℕ, List, [], ◌∷◌, ◌++◌, length, map, drop, get_or, Bool, true, false}
use Rattle.std.proofs.Common.{Option, Some, None, option_map, option_and_then, refl, sym, ap, ◌∙◌, if◌then◌else◌}
use Rattle.std.proofs.lemmas.List.{append-nil, append_assoc, drop_all}
use Rattle.fp_base.proofs.Turns.{drop-here}
use Rattle.fp_operators.specs.Data.{Data, text}
use Rattle.fp_operators.specs.Text.{scalar_text, text_of_scalars, text_or_null, concatenation}
use Rattle.fp_machine.specs.Found.{found_view}
use Rattle.fp_machine.specs.declared.machine.Found.{Found}

-- what is behind the text so far, with one more
longer : (a b : List ℕ) (r q : Option (List ℕ)) → Some b ≡ option_map (λ t. a ++ t) q →
    option_map (λ t. b ++ t) r ≡ option_map (λ t. a ++ t) (option_and_then (λ s. option_map (λ t. s ++ t) r) q)
longer a b r None h = absurd (cc)
longer a b None (Some s) h = refl
longer a b (Some t) (Some s) h = let e : b ≡ a ++ s = cc in ap Some (ap (λ c. c ++ t) e ∙ append_assoc a s t)

none : (a : List ℕ) (q r : Option (List ℕ)) → None ≡ option_map (λ t. a ++ t) q →
    option_map (λ t. a ++ t) (option_and_then (λ s. option_map (λ t. s ++ t) r) q) ≡ None
none a None r h = refl
none a (Some s) r h = absurd (cc)

module _ (xs : List Found) (i : ℕ) (x : Found) (a b : List ℕ) (within : i < length xs) (is : x ≡ get_or xs i x)
    (left : option_map (λ t. a ++ t) (text_of_scalars (map found_view (drop i xs))) ≡ text_of_scalars (map found_view xs)) where
  here : option_map (λ t. a ++ t) (text_of_scalars (map found_view (x ∷ drop (i + 1) xs))) ≡ text_of_scalars (map found_view xs)
  here = sym (ap (λ ys. option_map (λ t. a ++ t) (text_of_scalars (map found_view ys))) (drop-here xs i x within is)) ∙ left

  pub joined-more : (wrote : Bool) → wrote ≡ true →
      (if wrote then Some b else None) ≡ option_map (λ t. a ++ t) (scalar_text (found_view x)) →
      option_map (λ t. b ++ t) (text_of_scalars (map found_view (drop (i + 1) xs))) ≡ text_of_scalars (map found_view xs)
  joined-more true e h = longer a b (text_of_scalars (map found_view (drop (i + 1) xs))) (scalar_text (found_view x)) h ∙ here
  joined-more false e h = absurd (cc)

  pub joined-none : (wrote : Bool) → wrote ≡ false →
      (if wrote then Some b else None) ≡ option_map (λ t. a ++ t) (scalar_text (found_view x)) →
      concatenation (map found_view xs) ≡ text_or_null None
  joined-none true e h = absurd (cc)
  joined-none false e h =
      ap text_or_null (sym here ∙ none a (scalar_text (found_view x)) (text_of_scalars (map found_view (drop (i + 1) xs))) h)

pub joined-all : (xs : List Found) (i : ℕ) (a : List ℕ) → length xs ≤ i →
    option_map (λ t. a ++ t) (text_of_scalars (map found_view (drop i xs))) ≡ text_of_scalars (map found_view xs) →
    text a ≡ concatenation (map found_view xs)
joined-all xs i a all left =
    ap text (sym (append-nil a))
    ∙ ap text_or_null (sym (ap (λ ys. option_map (λ t. a ++ t) (text_of_scalars (map found_view ys))) (drop_all i xs all)) ∙ left)
