-- Running code: what is skipped, and one instruction after the other.
use Rattle.std.proofs.Common.{◌≡◌, ◌≤◌, ◌<◌, ◌+◌, ◌-◌, ℕ, zero, suc, List, [], ◌∷◌, ◌++◌, length, map, take, drop}
use Rattle.std.proofs.Common.{get_or, Option, Some, None, option_and_then, refl, sym, ap, ap₂, subst, ◌∙◌, arith, if◌then◌else◌}
use Rattle.std.proofs.Common.{Result, Ok, Err, IfOk, OnOk}
use Rattle.std.proofs.lemmas.Bool.{le-leb}
use Rattle.std.proofs.lemmas.List.{append-nil, take-append-drop, length-map, map-append, take_more, drop-take, length-take-le, length-drop}
use Rattle.fp_base.proofs.Turns.{take-here}
use Rattle.fp_operators.specs.Data.{Data}
use Rattle.fp_operators.specs.View.{view}
use Rattle.fp_operators.specs.declared.datum.Datum.{Datum}
use Rattle.fp_machine.specs.Found.{found_view, founds_view}
use Rattle.fp_machine.specs.Machine.{Env, Turn, act, run, of_kept}
use Rattle.fp_machine.specs.Stack.{onto, off}
use Rattle.fp_machine.specs.declared.code.Step.{Step}
use Rattle.fp_machine.specs.declared.machine.Found.{Found}
use Rattle.fp_machine.proofs.Stacks.{onto-append, onto-last, length-onto, off-step, off-onto}

module _ (env : Env) (root : Data) where
  skip-one : (n k : ℕ) (c : Step) (t : List Step) (v : Data) (s : List Data) → n ≡ 1 + k → run env root (c ∷ t) n v s ≡ run env root t k v s
  skip-one n k c t v s e = let as_suc : n ≡ suc k = omega (arith, e) in ap (λ m. run env root (c ∷ t) m v s) as_suc

  skip-some : (more t : List Step) (k : ℕ) (v : Data) (s : List Data) →
      run env root (onto more t) (length more + k) v s ≡ run env root t k v s
  skip-some [] t k v s = ap (λ n. run env root t n v s) (omega arith)
  skip-some (c ∷ more) t k v s =
      let longer : length (c ∷ more) + k ≡ length more + (1 + k) = omega arith in
      ap (λ n. run env root (onto more (c ∷ t)) n v s) longer ∙ skip-some more (c ∷ t) (1 + k) v s ∙ skip-one (1 + k) k c t v s refl

  -- past what was added
  pub skip-over : (more t : List Step) (n : ℕ) (v : Data) (s : List Data) → n ≡ length more →
      run env root (onto more t) n v s ≡ run env root t 0 v s
  skip-over more t n v s e =
      let longer : n ≡ length more + 0 = omega (arith, e) in
      ap (λ m. run env root (onto more t) m v s) longer ∙ skip-some more t 0 v s

  -- no more is skipped than there is
  pub skips-within : (cs : List Step) (n : ℕ) (v : Data) (s : List Data) (m : Data) → run env root cs n v s ≡ Some m → n ≤ length cs
  skips-within [] zero v s m h = omega arith
  skips-within [] (suc n) v s m h = absurd (cc)
  skips-within (c ∷ cs) zero v s m h = omega arith
  skips-within (c ∷ cs) (suc n) v s m h = let i = skips-within cs n v s m h in omega (arith, i)

  module _ (xs : List Step) (k : ℕ) (c : Step) (v : Data) (s : List Data) (m : Data) (within : k < length xs) (is : c ≡ get_or xs k c) where
    first : onto (take (k + 1) xs) [] ≡ c ∷ onto (take k xs) []
    first = ap (λ cs. onto cs []) (take-here xs k c within is) ∙ onto-last (take k xs) c []

    module _ (n : ℕ) (w : Data) (u : List Data) (does : act env root c v s ≡ Some (n, w, u))
        (h : run env root (onto (take (k + 1) xs) []) 0 v s ≡ Some m) where
      turned : run env root (onto (take k xs) []) n w u ≡ Some m
      turned =
          sym (ap (option_and_then (λ t. run env root (onto (take k xs) []) t.0 t.1 t.2)) does)
          ∙ sym (ap (λ cs. run env root cs 0 v s) first) ∙ h

      pub turn-within : n ≤ k
      turn-within =
          let a = skips-within (onto (take k xs) []) n w u m turned in
          let b = length-onto (take k xs) [] in
          let d = length-take-le k xs (omega (arith, within)) in
          omega (arith, a, b, d)

      parted : take k xs ≡ take (k - n) xs ++ drop (k - n) (take k xs)
      parted = sym (take-append-drop (k - n) (take k xs)) ∙ ap (λ ys. ys ++ drop (k - n) (take k xs)) shorter where
        shorter : take (k - n) (take k xs) ≡ take (k - n) xs
        shorter = Rattle.std.proofs.lemmas.List.take-take (k - n) k xs (omega arith)

      pub turn-left : run env root (onto (take (k - n) xs) []) 0 w u ≡ Some m
      turn-left =
          let back = drop (k - n) (take k xs) in
          let few = turn-within in
          let d = length-take-le k xs (omega (arith, within)) in
          let l = length-drop (k - n) (take k xs) in
          let long : n ≡ length back = omega (arith, d, l, few) in
          sym (skip-over back (onto (take (k - n) xs) []) n w u long)
          ∙ sym (ap (λ cs. run env root cs n w u) (ap (λ cs. onto cs []) parted ∙ onto-append (take (k - n) xs) back []))
          ∙ turned

-- kept results that are all taken
pub of_all : (f : List Data → Data) (n : ℕ) (ds s : List Data) → n ≡ length ds → of_kept f n (onto ds s) ≡ Some (0, f ds, s)
of_all f n ds s e =
    let enough : n ≤ length (onto ds s) = let o = length-onto ds s in omega (arith, o, e) in
    ap (λ b. if b then Some (0, f (off n (onto ds s) []).0, (off n (onto ds s) []).1) else None) (le-leb n _ enough)
    ∙ ap (λ (p : List Data × List Data). Some (0, f p.0, p.1))
    (ap (λ i. off i (onto ds s) []) e ∙ off-onto ds s ∙ ap (λ xs. (xs, s)) (append-nil ds))

-- the last kept results, in the order in which they were kept
pub last-kept : (f : List Data → Data) (n k : ℕ) (xs : List Found) → k + n ≡ length xs →
    of_kept f n (founds_view xs) ≡ Some (0, f (map found_view (drop k xs)), founds_view (take k xs))
last-kept f n k xs e =
    let front = take k xs in
    let back = drop k xs in
    let long : n ≡ length (map found_view back) = omega (arith, e, length-drop k xs, length-map back found_view) in
    ap (λ ys. of_kept f n (founds_view ys)) (sym (take-append-drop k xs))
    ∙ ap (λ ds. of_kept f n (onto ds [])) (map-append found_view front back)
    ∙ ap (of_kept f n) (onto-append (map found_view front) (map found_view back) [])
    ∙ of_all f n (map found_view back) (founds_view front) long

-- one more taken off
pub taken-one : (left : ℕ) (kept rest : List Found) (items : List Datum) (x : Found) (d : Datum)
    (all : List Data × List Data) → 1 ≤ left → kept ≡ rest ++ x ∷ [] → view d ≡ found_view x
    → off left (founds_view kept) (onto (map view items) []) ≡ all →
    off (left - 1) (founds_view rest) (onto (map view (items ++ d ∷ [])) []) ≡ all
taken-one left kept rest items x d all some last same h =
    let stack : founds_view kept ≡ found_view x ∷ founds_view rest =
    ap founds_view last ∙ ap (λ ds. onto ds []) (map-append found_view rest (x ∷ [])) ∙ onto-last (map found_view rest) (found_view x) [] in
    let more : onto (map view (items ++ d ∷ [])) [] ≡ found_view x ∷ onto (map view items) [] =
    ap (λ ds. onto ds []) (map-append view items (d ∷ [])) ∙ onto-last (map view items) (view d) [] ∙
    ap (λ e. e ∷ onto (map view items) []) same in
    let fewer : left ≡ 1 + (left - 1) = omega (arith, some) in
    ap (off (left - 1) (founds_view rest)) more
    ∙ sym (off-step (left - 1) left (found_view x) (founds_view rest) (onto (map view items) []) fewer)
    ∙ ap (λ s. off left s (onto (map view items) [])) (sym stack) ∙ h

pub enough-kept : (n : ℕ) (kept : List Found) → n ≤ length kept → n ≤ length (founds_view kept)
enough-kept n kept e = let o = length-onto (map found_view kept) [] in let m = length-map kept found_view in omega (arith, e, o, m)

-- what was taken off, in the order in which it was kept
pub of-taken : (f : List Data → Data) (n : ℕ) (kept : List Found) (ds s : List Data) → n ≤ length kept →
    off n (founds_view kept) [] ≡ (ds, s) → of_kept f n (founds_view kept) ≡ Some (0, f ds, s)
of-taken f n kept ds s e h =
    ap (λ b. if b then Some (0, f (off n (founds_view kept) []).0, (off n (founds_view kept) []).1) else None)
    (le-leb n _ (enough-kept n kept e))
    ∙ ap (λ (p : List Data × List Data). Some (0, f p.0, p.1)) h

-- what a call did, of the instruction that is done
pub of-step : {A : Type 0} {c e : Step} (env : Env) (root : Data) → c ≡ e → (r : Result ℕ A) (v w : Data) (s u : List Data) →
    IfOk r (λ n. act env root e v s ≡ Some (n, w, u)) → IfOk r (λ n. act env root c v s ≡ Some (n, w, u))
of-step env root is r v w s u does = subst (λ b. IfOk r (λ n. act env root b v s ≡ Some (n, w, u))) (sym is) does

abbrev turn : ℕ → Data → List Data → Option Turn
turn n d s = Some (n, d, s)

-- nothing is skipped, and nothing more kept
pub at-hand : {A : Type 0} (r : Result ℕ A) (d w : Data) (s : List Data) → OnOk r (w ≡ d) → IfOk r (λ n. n ≡ 0) →
    IfOk r (λ n. turn 0 d s ≡ turn n w s)
at-hand (Ok n) d w s e none = ap₂ (λ k x. turn k x s) (sym none) (sym e)
at-hand (Err x) d w s e none = tt
