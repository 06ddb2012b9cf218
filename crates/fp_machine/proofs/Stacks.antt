-- Stacks, with the items of a list put onto them.
use Rattle.std.proofs.Common.{◌≡◌, ℕ, suc, ◌+◌, List, [], ◌∷◌, ◌++◌, length, map, refl, sym, ap, ◌∙◌, arith}
use Rattle.std.specs.Prelude.{reverse}
use Rattle.std.proofs.lemmas.List.{append-nil, append_assoc, reverse-append}
use Rattle.fp_machine.specs.Stack.{onto, off}

module _ {A : Type 0} where
  pub onto-append : (xs ys s : List A) → onto (xs ++ ys) s ≡ onto ys (onto xs s)
  onto-append [] ys s = refl
  onto-append (x ∷ xs) ys s = onto-append xs ys (x ∷ s)

  pub onto-last : (xs : List A) (x : A) (s : List A) → onto (xs ++ x ∷ []) s ≡ x ∷ onto xs s
  onto-last xs x s = onto-append xs (x ∷ []) s

  pub length-onto : (xs s : List A) → length (onto xs s) ≡ length xs + length s
  length-onto [] s = omega arith
  length-onto (x ∷ xs) s = let i = length-onto xs (x ∷ s) in omega (arith, i)

  -- one more at a time
  pub off-step : (n m : ℕ) (x : A) (s others : List A) → m ≡ 1 + n → off m (x ∷ s) others ≡ off n s (x ∷ others)
  off-step n m x s others e = let as_suc : m ≡ suc n = omega (arith, e) in ap (λ k. off k (x ∷ s) others) as_suc

  off-some : (n : ℕ) (xs s others : List A) → off (length xs + n) (onto xs s) others ≡ off n s (xs ++ others)
  off-some n [] s others = ap (λ m. off m s others) (omega arith)
  off-some n (x ∷ xs) s others =
      let more : length (x ∷ xs) + n ≡ length xs + (1 + n) = omega arith in
      ap (λ m. off m (onto xs (x ∷ s)) others) more ∙ off-some (1 + n) xs (x ∷ s) others ∙ off-step n (1 + n) x s (xs ++ others) refl

  -- what was put comes off as it was put
  pub off-onto : (xs s : List A) → off (length xs) (onto xs s) [] ≡ (xs ++ [], s)
  off-onto xs s = ap (λ m. off m (onto xs s) []) (omega arith) ∙ off-some 0 xs s []

  reverse-onto : (xs : List A) → reverse xs ≡ onto xs []
  reverse-onto xs = sym (append-nil (reverse xs)) ∙ from xs [] where
    from : (xs s : List A) → reverse xs ++ s ≡ onto xs s
    from [] s = refl
    from (x ∷ xs) s = ap (λ ys. ys ++ s) (reverse-append (x ∷ []) xs) ∙ append_assoc (reverse xs) (x ∷ []) s ∙ from xs (x ∷ s)

module _ {A B : Type 0} (f : A → B) where
  map-onto : (xs s : List A) → map f (onto xs s) ≡ onto (map f xs) (map f s)
  map-onto [] s = refl
  map-onto (x ∷ xs) s = map-onto xs (x ∷ s)

  pub map-reverse : (xs : List A) → map f (reverse xs) ≡ onto (map f xs) []
  map-reverse xs = ap (map f) (reverse-onto xs) ∙ map-onto xs []
