-- Bytes put over others past the end, where room for them is filled up first.
use Rattle.std.proofs.Common.{◌≡◌, ◌≤◌, ◌<◌, ◌+◌, ◌-◌, ℕ, List, [], ◌∷◌, ◌++◌, length, take, drop, replicate, refl}
use Rattle.std.proofs.Common.{arith, sym, ap, ◌∙◌, zero, suc}
use Rattle.std.proofs.lemmas.Grind.{common_steps}
use Rattle.fp_disk.specs.Outcomes.{with_bytes_at}
use Rattle.std.proofs.lemmas.List.{append-nil, take-replicate, drop_all}

-- however many zeros are behind, so long as there are enough
same_front : (at : ℕ) (old : List ℕ) (n m : ℕ) → at ≤ length old + n → at ≤ length old + m →
    take at (old ++ replicate n 0) ≡ take at (old ++ replicate m 0)
same_front zero old n m le le' = refl
same_front (suc k) [] n m le le' = take-replicate (suc k) n 0 (omega arith) ∙ sym (take-replicate (suc k) m 0 (omega arith))
same_front (suc k) (x ∷ xs) n m le le' = ap (λ (l : List ℕ). x ∷ l) (same_front k xs n m (omega arith) (omega arith))

pub overwritten-filled : (old more : List ℕ) (at end : ℕ) → end ≡ at + length more → length old < end →
    with_bytes_at (old ++ replicate (end - length old) 0) at more ≡ with_bytes_at old at more
overwritten-filled old more at end is lt =
    let len : length (old ++ replicate (end - length old) 0) ≡ end = grind (arith, common_steps) in
    let none : at - length (old ++ replicate (end - length old) 0) ≡ 0 = omega (arith, len, is) in
    let front : take at ((old ++ replicate (end - length old) 0) ++ replicate
    (at - length (old ++ replicate (end - length old) 0)) 0) ≡ take at (old ++ replicate (at - length old) 0) =
    ap (λ (k : ℕ). take at ((old ++ replicate (end - length old) 0) ++ replicate k 0)) none ∙
    (ap (λ (l : List ℕ). take at l) (append-nil (old ++ replicate (end - length old) 0)) ∙
    same_front at old (end - length old) (at - length old) (omega (arith, is)) (omega arith)) in
    let behind : drop (at + length more) (old ++ replicate (end - length old) 0) ≡ drop (at + length more) old =
    drop_all (at + length more) (old ++ replicate (end - length old) 0) (omega (arith, len, is)) ∙
    sym (drop_all (at + length more) old (omega (arith, is))) in
    ap (λ (l : List ℕ). l ++ more ++ drop (at + length more) (old ++ replicate (end - length old) 0)) front ∙
    ap (λ (l : List ℕ). take at (old ++ replicate (at - length old) 0) ++ more ++ l) behind

-- what is behind a slice that was lent whole
pub take-lent : (n : ℕ) (xs ys : List ℕ) → n ≡ length xs → length ys ≡ length xs → take n (xs ++ drop (length xs) ys) ≡ xs
take-lent n xs ys is same = let gone : drop (length xs) ys ≡ [] = drop_all (length xs) ys (omega (arith, same)) in
    ap (λ (l : List ℕ). take n (xs ++ l)) gone ∙ (ap (λ (l : List ℕ). take n l) (append-nil xs) ∙ grind (arith, common_steps, is))
