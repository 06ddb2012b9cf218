-- A stable sort of pairs by their keys leaves the last pair of each key.
use Rattle.std.proofs.Common.{◌≡◌, List, [], ◌∷◌, length, Bool, true, false, Option, None, Some, Ordering, Less, Equal}
use Rattle.std.proofs.Common.{Greater, refl, sym, ap, ◌∙◌, ⊎_elim, arith}
use Rattle.std.specs.Prelude.{◌&&◌, cond, not}
use Rattle.std.specs.Cmp.{IsTotalOrder}
use Rattle.std.specs.List.{filter}
use Rattle.std.specs.List.Sorted.{IsStableBy, ties}
use Rattle.std.specs.Map.{update, update_all}
use Rattle.std.specs.Ordering.{eq_by_cmp, is_eq, is_lt, ordering_reverse}
use Rattle.std.proofs.lemmas.Bool.{cases_Bool}

picked : {A : Type 0} (b : Bool) (x y : A) → b ≡ true → cond b x y ≡ x
picked b x y h = ap (λ c. cond c x y) h

passed : {A : Type 0} (b : Bool) (x y : A) → b ≡ false → cond b x y ≡ y
passed b x y h = ap (λ c. cond c x y) h

tie : (r : Ordering) → not (is_lt (ordering_reverse r)) && not (is_lt r) ≡ is_eq r
tie Less = refl
tie Equal = refl
tie Greater = refl

module _ {K X : Type 0} {R : K → K → Ordering} (o : IsTotalOrder R) where
  abbrev before : K × X → K × X → Bool
  before p q = is_lt (R p.0 q.0)

  abbrev with : (K → Option X) → K × X → K → Option X
  with f p = update (eq_by_cmp R) f p.0 (Some p.1)

  module _ (k : K) (v : X) where
    tied : (p : K × X) → ties before (k, v) p ≡ is_eq (R p.0 k)
    tied p = ap (λ r. not (is_lt r) && not (is_lt (R p.0 k))) (o.antisymm k p.0) ∙ tie (R p.0 k)

    -- those of a key alone decide what stands at it
    decided : (f g : K → Option X) → f k ≡ g k → (xs : List (K × X)) →
        update_all (eq_by_cmp R) f xs k ≡ update_all (eq_by_cmp R) g (filter (ties before (k, v)) xs) k
    decided f g h [] = h
    decided f g h (p ∷ xs) =
        let rest = filter (ties before (k, v)) xs in
        ⊎_elim
        (λ y. decided (with f p) (with g p) (ap (cond (is_eq (R p.0 k)) (Some p.1)) h) xs ∙
        ap (λ l. update_all (eq_by_cmp R) g l k) (sym (picked (ties before (k, v) p) (p ∷ rest) rest y)))
        (λ n. decided (with f p) g (passed (is_eq (R p.0 k)) (Some p.1) (f k) (sym (tied p) ∙ n) ∙ h) xs ∙
        ap (λ l. update_all (eq_by_cmp R) g l k) (sym (passed (ties before (k, v) p) (p ∷ rest) rest n)))
        (cases_Bool (ties before (k, v) p))

  pub alike : (k : K) (xs ys : List (K × X)) → length ys ≡ length xs → IsStableBy before xs ys
      → update_all (eq_by_cmp R) (λ q. None) ys k ≡ update_all (eq_by_cmp R) (λ q. None) xs k
  alike k [] [] len stable = refl
  alike k [] (y ∷ ys) len stable = absurd (omega arith)
  alike k (x ∷ xs) ys len stable =
      decided k x.1 (λ q. None) (λ q. None) refl ys
      ∙ ap (λ l. update_all (eq_by_cmp R) (λ q. None) l k) (stable (k, x.1))
      ∙ sym (decided k x.1 (λ q. None) (λ q. None) refl (x ∷ xs))
