-- The first of a list's bytes, and what is put behind them.
use Rattle.std.proofs.Common.{append_assoc, ◌≡◌, ℕ, ◌+◌, ◌-◌, ◌≤◌, ◌<◌, List, [], ◌∷◌, ◌++◌, length, take, drop, set}
use Rattle.std.proofs.Common.{sym, ◌∙◌, ap, subst, arith, length-append}
use Rattle.std.specs.Prelude.{slice_range}
use Rattle.std.proofs.Math.Seq.{take-append_seam, drop-append_seam, set-append_seam}
use Rattle.std.proofs.lemmas.List.{append-nil, drop-take, take-append-drop, take-append-le, length-take, length-take-le, length-drop}
use Rattle.fp_disk.specs.Outcomes.{Written}
use Rattle.fp_gate.specs.declared.gate.TheConstants.{OPEN}
use Rattle.fp_journal.specs.Chain.{with_length, with_gate}

pub front_is : (xs : List ℕ) (n : ℕ) → slice_range xs 0 n ≡ take n xs
front_is xs n = let e : n - 0 ≡ n = omega arith in ap (λ (k : ℕ). take k xs) e

pub front_long : (xs : List ℕ) (n : ℕ) → n ≤ length xs → length (slice_range xs 0 n) ≡ n
front_long xs n le = ap length (front_is xs n) ∙ length-take-le n xs le

-- a range of the first ones is one of all
pub range_of_front : (xs : List ℕ) (i j k : ℕ) → i ≤ j → j ≤ k → k ≤ length xs → slice_range (slice_range xs 0 k) i j ≡ slice_range xs i j
range_of_front xs i j k le le2 all =
    let split : i + (k - i) ≡ k = omega (arith, le, le2) in let zs : List ℕ = drop i xs in
    let a : drop i (slice_range xs 0 k) ≡ take (k - i) zs =
    ap (drop i) (front_is xs k ∙ ap (λ (n : ℕ). take n xs) (sym split)) ∙ drop-take i (k - i) xs in
    let rest : length zs ≡ length xs - i = length-drop i xs in
    let long : length (take (k - i) zs) ≡ k - i = length-take-le (k - i) zs (omega (arith, rest, all, le, le2)) in
    let b : take (j - i) (take (k - i) zs) ≡ take (j - i) (take (k - i) zs ++ drop (k - i) zs) =
    sym (take-append-le (j - i) (take (k - i) zs) (drop (k - i) zs) (omega (arith, long, le2))) in
    ap (take (j - i)) a ∙ b ∙ ap (take (j - i)) (take-append-drop (k - i) zs)

-- what was written of all was of the first ones
pub written_of_front : (at : ℕ) (old xs : List ℕ) (i j n : ℕ) → i ≤ j → j ≤ n + 1 → n < length xs →
    {piece new : List ℕ} → piece ≡ slice_range xs i j → Written old at piece new →
    Written old at (slice_range (slice_range xs 0 (n + 1)) i j) new
written_of_front at old xs i j n le le2 there {piece} {new} is w =
    subst (λ (t : List ℕ). Written old at t new)
    (is ∙ sym (range_of_front xs i j (n + 1) le le2 (omega (arith, there)))) w

-- bytes in front of a closed gate have that gate among them
pub there_is : (xs : List ℕ) (n : ℕ) → n ≤ length xs → slice_range xs 0 (n + 1) ≡ slice_range xs 0 n ++ 0 ∷ [] → n < length xs
there_is xs n le is =
    let a = ap length is in let b = length-append (slice_range xs 0 n) (0 ∷ []) in let c = front_long xs n le in
    let d : length (slice_range xs 0 (n + 1)) ≡ length (take (n + 1) xs) = ap length (front_is xs (n + 1)) in
    let e = length-take (n + 1) xs in omega (arith, a, b, c, d, e)

pub shut_size : (xs : List ℕ) (n : ℕ) → n ≤ length xs → slice_range xs 0 (n + 1) ≡ slice_range xs 0 n ++ 0 ∷ [] →
    (n < length xs) × (length (slice_range xs 0 (n + 1)) ≡ n + 1)
shut_size xs n le is = let there = there_is xs n le is in (there, front_long xs (n + 1) (omega (arith, there)))

-- ---- this text stands in front of a closed gate there, and these bytes behind that one
pub record InFront (xs text behind : List ℕ) (n : ℕ) : Type 0 where
  pub front : slice_range xs 0 n ≡ text
  pub all : slice_range xs 0 (n + 1) ≡ text ++ 0 ∷ []
  pub back : drop (n + 1) xs ≡ behind
  pub there : n < length xs

pub in_front : (xs text behind : List ℕ) (n : ℕ) → xs ≡ (text ++ 0 ∷ []) ++ behind → n ≡ length text → InFront xs text behind n
in_front xs text behind n is len = let long : length (text ++ 0 ∷ []) ≡ n + 1 = length-append text (0 ∷ []) ∙
    ap (λ (k : ℕ). k + 1) (sym len) in record {
      front = front_is xs n ∙ ap (λ (k : ℕ). take k xs) len ∙
          ap (take (length text)) (is ∙ append_assoc text (0 ∷ []) behind) ∙ take-append_seam text (0 ∷ behind);
      all = front_is xs (n + 1) ∙ ap (λ (k : ℕ). take k xs) (sym long) ∙ ap (take (length (text ++ 0 ∷ []))) is ∙
          take-append_seam (text ++ 0 ∷ []) behind;
      back = ap (λ (k : ℕ). drop k xs) (sym long) ∙ ap (drop (length (text ++ 0 ∷ []))) is ∙ drop-append_seam (text ++ 0 ∷ []) behind;
      there = (let size = ap length is in let joined = length-append (text ++ 0 ∷ []) behind in omega (arith, size, joined, long));
    }

module _ (planned text : List ℕ) (n : ℕ) (fits : n ≤ length planned)
    (shut : slice_range planned 0 (n + 1) ≡ text ++ 0 ∷ []) (is : slice_range planned 0 n ≡ text) where
  ends : n ≡ length text
  ends = sym (front_long planned n fits) ∙ ap length is

  -- other bytes behind the gate
  pub put_behind : (new more : List ℕ) → new ≡ slice_range planned 0 (n + 1) ++ more → InFront new text more n
  put_behind new more made = in_front new text more n (made ∙ ap (λ (t : List ℕ). t ++ more) shut) ends

  -- a body behind the text: the closed gate between them opens
  pub opened : (body : List ℕ) → drop (n + 1) planned ≡ with_gate body → (new : List ℕ) (last : ℕ) →
      new ≡ set planned n OPEN → last + 1 ≡ length planned → InFront new (text ++ OPEN ∷ with_length body) [] last ×
      (last ≡ n + length (with_gate body))
  opened body coming new last made size =
      let all : planned ≡ text ++ 0 ∷ with_gate body = sym (take-append-drop (n + 1) planned) ∙
      ap (λ (t : List ℕ). t ++ drop (n + 1) planned) (sym (front_is planned (n + 1)) ∙ shut) ∙
      ap (λ (t : List ℕ). (text ++ 0 ∷ []) ++ t) coming ∙ append_assoc text (0 ∷ []) (with_gate body) in
      let set_is : set planned n OPEN ≡ (text ++ OPEN ∷ with_length body) ++ 0 ∷ [] =
      ap (λ (t : List ℕ). set t n OPEN) all ∙ ap (λ (k : ℕ). set (text ++ 0 ∷ with_gate body) k OPEN) ends ∙
      set-append_seam text 0 (with_gate body) OPEN ∙ sym (append_assoc text (OPEN ∷ with_length body) (0 ∷ [])) in
      let a = ap length all in let b = length-append text (0 ∷ with_gate body) in
      let c = length-append text (OPEN ∷ with_length body) in
      let d = length-append (with_length body) (0 ∷ []) in let e = ends in (
        in_front new (text ++ OPEN ∷ with_length body) [] last
            (made ∙ set_is ∙ sym (append-nil ((text ++ OPEN ∷ with_length body) ++ 0 ∷ [])))
            (omega (arith, size, a, b, c, d, e)),
        omega (arith, size, a, b, e),
      )
