-- A text within another.
use Rattle.std.proofs.Common.{◌≡◌, ◌↔◌, ℕ, List, [], ◌∷◌, ◌++◌, length, drop, Bool, true, false, ◌||◌, eqb, refl, sym, ap, ◌∙◌}
use Rattle.std.specs.List.{starts_with}
use Rattle.std.specs.Str.Iter.{HasSubslice}
use Rattle.std.proofs.lemmas.Bool.Decides.{Decides-eqb}
use Rattle.std.proofs.lemmas.Slice.Eq.{starts_is}
use Rattle.fp_operators.specs.Text.{occurs}

-- the test and the words for it
told : (n s : List ℕ) → occurs n s ≡ true → HasSubslice s n
told n [] h = ([], drop (length n) [], (starts_is Decides-eqb [] n _ refl).0 h)
told n (b ∷ bs) h =
    elim (starts_with eqb (b ∷ bs) n) as (λ t. starts_with eqb (b ∷ bs) n ≡ t → t || occurs n bs ≡ true → HasSubslice (b ∷ bs) n) [
      | true ↦ λ e g. ([], drop (length n) (b ∷ bs), (starts_is Decides-eqb (b ∷ bs) n _ refl).0 e)
      | false ↦ λ e g. let k = told n bs g in (b ∷ k.0, k.1, ap (λ l. b ∷ l) k.2)
    ] refl h

here : (n s : List ℕ) → starts_with eqb s n ≡ true → occurs n s ≡ true
here n [] h = h
here n (x ∷ xs) h = ap (λ t. t || occurs n xs) h

later : (p q : Bool) → q ≡ true → p || q ≡ true
later true q h = refl
later false q h = h

tells : (n a b : List ℕ) → occurs n (a ++ (n ++ b)) ≡ true
tells n [] b = here n (n ++ b) ((starts_is Decides-eqb (n ++ b) n _ refl).1 b refl)
tells n (x ∷ a) b = later (starts_with eqb (x ∷ (a ++ (n ++ b))) n) (occurs n (a ++ (n ++ b))) (tells n a b)

pub same_test : (r o : Bool) → (r ≡ true → o ≡ true) → (o ≡ true → r ≡ true) → r ≡ o
same_test true true f g = refl
same_test true false f g = sym (f refl)
same_test false true f g = g refl
same_test false false f g = refl

pub contained : (r : Bool) (n s : List ℕ) → (r ≡ true) ↔ HasSubslice s n → r ≡ occurs n s
contained r n s h = same_test r (occurs n s) (λ e. let k = h.0 e in ap (occurs n) k.2 ∙ tells n k.0 k.1) (λ e. h.1 (told n s e))

-- the same of the test itself
pub occurs_within : (n s : List ℕ) → (occurs n s ≡ true) ↔ HasSubslice s n
occurs_within n s = (told n s, λ k. ap (occurs n) k.2 ∙ tells n k.0 k.1)
