-- The size and the count of a set after an insert and a removal.
use Rattle.std.proofs.Common.{◌≡◌, ◌<◌, ◌≤◌, T, ◌&&◌, ℕ, ◌+◌, List, [], ◌∷◌, length, Ordering, Less, Equal, Greater}
use Rattle.std.proofs.Common.{Option, Some, None, cond, Bool, true, false, is_eq, refl, sym, ap, ◌∙◌, arith}
use Rattle.std.specs.Ordering.{eq_by_cmp, is_lt}
use Rattle.std.specs.Cmp.{Equal-is}
use Rattle.std.proofs.lemmas.Cmp.{nat_list_cmp_total, tied_itself}
use Rattle.std.proofs.lemmas.List.{nil_from_length}
use Rattle.std.proofs.lemmas.Map.Lookups.{exact_bytes}
use Rattle.std.specs.FinMap as fin
use Rattle.std.specs.FinMap.Entries.{by_order, put, find, below_all, is_sorted}
use Rattle.fp_base.specs.Bytes.{bytes_cmp}
use Rattle.fp_documents.specs.Flags.{Flags, cost, total_cost, cost_found, one_found, size}
use Rattle.fp_documents.specs.declared.flags.Flag.{Flag}

-- both parts, and a key in front of another
pub first : (a b : Bool) → T (a && b) → T a
first true b p = tt
first false b p = p

pub second : (a b : Bool) → T (a && b) → T b
second true b p = p
second false b p = absurd p

pub less : (o : Ordering) → T (is_lt o) → o ≡ Less
less Less p = refl
less Equal p = absurd p
less Greater p = absurd p

-- a key that is below x, which is below all of the entries, isn't found among them
pub find_below : (k x : List ℕ) (es : List (List ℕ × Flag)) → bytes_cmp k x ≡ Less → T (below_all bytes_cmp x es) →
    find bytes_cmp k es ≡ None
find_below k x [] p h = refl
find_below k x (e ∷ es) p h =
    let here : bytes_cmp k e.0 ≡ Less = nat_list_cmp_total.trans k x e.0 p (less _ (first _ _ h)) in
    ap (λ r. cond (is_eq r) (Some e.1) (find bytes_cmp k es)) here ∙ find_below k x es p (second _ _ h)

stays : (b : Bool) (x : Option Flag) → (b ≡ true → x ≡ None) → cond b None x ≡ x
stays true x h = sym (h refl)
stays false x h = refl

back : (b : Bool) (x : Option Flag) (f : Flag) → (b ≡ true → x ≡ Some f) → cond b (Some f) (cond b None x) ≡ x
back true x f h = sym (h refl)
back false x f h = refl

pub at_key : (m : Flags) (k q : List ℕ) → eq_by_cmp bytes_cmp q k ≡ true → fin.get m q ≡ fin.get m k
at_key m k q e = sym (fin.get_tied nat_list_cmp_total m q k ((Equal-is (bytes_cmp q k)).0 e))

-- a removal of nothing
pub removed_none : (m : Flags) (k : List ℕ) → fin.get m k ≡ None → fin.remove m k ≡ m
removed_none m k none = fin.same_map nat_list_cmp_total exact_bytes (fin.remove m k) m (λ q.
    fin.get-remove nat_list_cmp_total m k q ∙ stays _ _ (λ e. at_key m k q e ∙ none))

-- a removal of a flag: nothing is there then, and an insert of the flag undoes it
pub removed_some : (m : Flags) (k : List ℕ) (f : Flag) → fin.get m k ≡ Some f
    → (fin.get (fin.remove m k) k ≡ None) × (fin.insert (fin.remove m k) k f ≡ m)
removed_some m k f some = (
  fin.get-remove nat_list_cmp_total m k k ∙ ap (λ r. cond (is_eq r) None (fin.get m k)) (tied_itself nat_list_cmp_total k),
  fin.same_map nat_list_cmp_total exact_bytes (fin.insert (fin.remove m k) k f) m (λ q.
      fin.get-insert nat_list_cmp_total (fin.remove m k) k f q
      ∙ ap (cond (eq_by_cmp bytes_cmp q k) (Some f)) (fin.get-remove nat_list_cmp_total m k q)
      ∙ back _ _ f (λ e. at_key m k q e ∙ some)),
)

-- a sum over entries, after an insert: what was there goes out of it, and what is comes into it
module _ (w : List ℕ × Flag → ℕ) (sum : List (List ℕ × Flag) → ℕ)
    (step : (e : List ℕ × Flag) (es : List (List ℕ × Flag)) → sum (e ∷ es) ≡ w e + sum es)
    (found : List ℕ → Option Flag → ℕ) (none : (k : List ℕ) → found k None ≡ 0)
    (some : (k : List ℕ) (f : Flag) → found k (Some f) ≡ w (k, f)) where
  sum-put : (k : List ℕ) (f : Flag) (es : List (List ℕ × Flag)) → T (is_sorted bytes_cmp es) →
      sum (put bytes_cmp k f es) + found k (find bytes_cmp k es) ≡ sum es + w (k, f)
  sum-put k f [] h = let one = step (k, f) [] in let gone = none k in omega arith
  sum-put k f (e ∷ es) h =
      let here = step e es in
      elim (bytes_cmp k e.0) as (λ r. bytes_cmp k e.0 ≡ r →
      sum (by_order r ((k, f) ∷ e ∷ es) ((e.0, f) ∷ es) (e ∷ put bytes_cmp k f es)) + found k
      (cond (is_eq r) (Some e.1) (find bytes_cmp k es)) ≡ sum (e ∷ es) + w (k, f)) [
        | Less ↦ λ p. let gone = none k in let more = step (k, f) (e ∷ es) in rw (find_below k e.0 es p (first _ _ h)) (omega arith)
        | Equal ↦ λ p.
            let is : e.0 ≡ k = sym (exact_bytes k e.0 p) in
            let old : w e ≡ w (k, e.1) = ap (λ q. w (q, e.1)) is in
            let new : w (e.0, f) ≡ w (k, f) = ap (λ q. w (q, f)) is in
            let more = step (e.0, f) es in
            let was = some k e.1 in omega arith
        | Greater ↦ λ p. let rest = sum-put k f es (second (below_all bytes_cmp e.0 es) (is_sorted bytes_cmp es) h)
            in let more = step e (put bytes_cmp k f es) in omega arith
      ] refl

  pub sum-insert : (m : Flags) (k : List ℕ) (f : Flag) →
      sum (fin.entries (fin.insert m k f)) + found k (fin.get m k) ≡ sum (fin.entries m) + w (k, f)
  sum-insert m k f = rw (fin.entries-insert nat_list_cmp_total m k f, fin.get-entries m k)
      (sum-put k f (fin.entries m) (fin.entries_sorted m))

  -- a removal takes what was there
  pub sum-remove : (m : Flags) (k : List ℕ) → sum (fin.entries (fin.remove m k)) + found k (fin.get m k) ≡ sum (fin.entries m)
  sum-remove m k =
      elim (fin.get m k) as (λ o. fin.get m k ≡ o → sum (fin.entries (fin.remove m k)) + found k o ≡ sum (fin.entries m)) [
        | None ↦ λ gone. let same = ap (λ n. sum (fin.entries n)) (removed_none m k gone) in let nothing = none k in omega arith
        | Some f ↦ λ is.
            let back = removed_some m k f is in
            let same = ap (λ n. sum (fin.entries n)) back.1 in
            let all = sum-insert (fin.remove m k) k f in
            let nothing = ap (found k) back.0 ∙ none k in
            let was = some k f in omega arith
      ] refl

-- ---- sizes

pub size-insert : (m : Flags) (k : List ℕ) (f : Flag) → size (fin.insert m k f) + cost_found k (fin.get m k) ≡ size m + cost (k, f)
size-insert m k f = let all = sum-insert cost total_cost (λ e es. refl) cost_found (λ k. refl) (λ k f. refl) m k f in omega arith

pub size-remove : (m : Flags) (k : List ℕ) → size (fin.remove m k) + cost_found k (fin.get m k) ≡ size m
size-remove m k = let all = sum-remove cost total_cost (λ e es. refl) cost_found (λ k. refl) (λ k f. refl) m k in omega arith

abbrev no_flags : Flags
no_flags = fin.empty

pub size-empty : size no_flags ≡ 4
size-empty = ap (λ es. 4 + total_cost es)
    (nil_from_length (fin.entries no_flags) (sym (fin.len-entries no_flags) ∙ fin.len-empty bytes_cmp Flag))

-- the size of the flags with one more, from that of the one that it replaces
pub resized : (m : Flags) (k : List ℕ) (f : Flag) (kept spent before : ℕ) → kept ≡ size m → spent ≡ cost (k, f) →
    before ≡ cost_found k (fin.get m k)
    → (kept + spent ≡ size (fin.insert m k f) + before)
resized m k f kept spent before p q r = let all = size-insert m k f in omega arith

-- ---- counts

pub count-insert : (m : Flags) (k : List ℕ) (f : Flag) → fin.len (fin.insert m k f) + one_found (fin.get m k) ≡ fin.len m + 1
count-insert m k f =
    let all = sum-insert (λ _. 1) length (λ e es. omega arith) (λ _. one_found) (λ k. refl) (λ k f. refl) m k f in
    let old = fin.len-entries m in
    let new = fin.len-entries (fin.insert m k f) in omega arith

pub count-remove : (m : Flags) (k : List ℕ) → fin.len (fin.remove m k) + one_found (fin.get m k) ≡ fin.len m
count-remove m k =
    let all = sum-remove (λ _. 1) length (λ e es. omega arith) (λ _. one_found) (λ k. refl) (λ k f. refl) m k in
    let old = fin.len-entries m in
    let new = fin.len-entries (fin.remove m k) in omega arith

-- ---- a key's flag, by what it takes

some_at : (k : List ℕ) (o : Option Flag) → 0 < cost_found k o → (f : Flag) × (o ≡ Some f)
some_at k None h = absurd (omega (arith, h))
some_at k (Some f) h = (f, refl)

-- it is part of the whole
pub found_within : (m : Flags) (k : List ℕ) → cost_found k (fin.get m k) ≤ size m
found_within m k = let all = size-remove m k in omega (arith, all)

pub found_some : (m : Flags) (k : List ℕ) → 0 < cost_found k (fin.get m k) → 0 < fin.len m
found_some m k h = let all = count-remove m k in let one = ap one_found (some_at k (fin.get m k) h).1 in omega (arith, all, one)
