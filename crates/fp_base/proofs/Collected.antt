-- Maps made of a list of pairs at once.
use Rattle.std.proofs.Common.{◌≡◌, ℕ, nat_cmp, List, [], ◌∷◌, Bool, true, false, Option}
use Rattle.std.proofs.Common.{None, Some, Ordering, Less, Equal, Greater, true≢false, ⊎_elim, refl, sym, ap, ap₂}
use Rattle.std.proofs.Common.{◌∙◌}
use Rattle.std.specs.Prelude.{cond, is_some, unwrap_or}
use Rattle.std.specs.BTreeMap.{BTreeMap, insert_entry, is_at, IsFromIterResult}
use Rattle.std.specs.Cmp.{IsTotalOrder, eq_by_cmp_equiv, tied_itself}
use Rattle.std.specs.Cmp.Lexicographic.{slice_cmp}
use Rattle.std.specs.List.{AllByRecursion}
use Rattle.std.specs.List.Sorted.{IsStrictlySortedBy}
use Rattle.std.specs.Map.{keys_of, lookup, update_all}
use Rattle.std.specs.Ordering.{eq_by_cmp, is_eq, match_ordering, ordering_reverse}
use Rattle.std.proofs.lemmas.Bool.{cases_Bool}
use Rattle.std.proofs.lemmas.Map.{lookup-none}
use Rattle.std.proofs.lemmas.Map.Entries.{lookup_head, lookup_tail, none_past_head, none_below_head}
use Rattle.std.proofs.lemmas.Map.Keys.{sorted_tail, IsDistinct-from_sorted}
use Rattle.std.proofs.lemmas.Map.Lookups.{map_keys}
use Rattle.std.proofs.lemmas.Map.Made.{update_all_none}
use Rattle.serde_json.specs.Data.{Data, Members, no_members, member}
use Rattle.fp_base.specs.Sorted.{IsBelow, IsSorted}

some-none : {X : Type 0} {v : X} {o : Option X} → o ≡ Some v → o ≡ None → ⊥
some-none h none = true≢false (ap is_some (sym h ∙ none))

cond-again : {X : Type 0} (b : Bool) (x y z : X) → cond b x z ≡ cond b x (cond b y z)
cond-again true x y z = refl
cond-again false x y z = refl

cond-swap : {X : Type 0} (a b : Bool) (x y z : X) → (a ≡ true → b ≡ true → ⊥) → cond a x (cond b y z) ≡ cond b y (cond a x z)
cond-swap true true x y z h = absurd (h refl refl)
cond-swap true false x y z h = refl
cond-swap false b x y z h = refl

module _ {K : Type 0} {R : K → K → Ordering} (o : IsTotalOrder R) where
  tied-alike : (q k l : K) → R k l ≡ Equal → is_eq (R q k) ≡ is_eq (R q l)
  tied-alike q k l tie = let laws = eq_by_cmp_equiv o in laws.symm q k ∙ laws.congr k l q (ap is_eq tie) ∙ laws.symm l q

module _ {K X : Type 0} {R : K → K → Ordering} (o : IsTotalOrder R) where
  -- what stands at a key
  abbrev at : K → List (K × X) → Option X
  at q es = lookup (is_at (R q)) es

  at-first : (e : K × X) (es : List (K × X)) → at e.0 (e ∷ es) ≡ Some e.1
  at-first e es = lookup_head (is_at (R e.0)) e es (ap is_eq (tied_itself o e.0))

  at-lower : (q : K) (e : K × X) (es : List (K × X)) → IsStrictlySortedBy R (keys_of (e ∷ es)) → R q e.0 ≡ Less → at q (e ∷ es) ≡ None
  at-lower q e es sorted less = lookup-none (is_at (R q)) (e ∷ es) (none_below_head o q e es sorted less)

  firsts-tie : (d e : K × X) (ds es : List (K × X)) → IsStrictlySortedBy R (keys_of (d ∷ ds)) → IsStrictlySortedBy R (keys_of (e ∷ es))
      → ((q : K) → at q (d ∷ ds) ≡ at q (e ∷ es)) → (r : Ordering) → R d.0 e.0 ≡ r → r ≡ Equal
  firsts-tie d e ds es s t same Less h = absurd (some-none (at-first d ds) (same d.0 ∙ at-lower d.0 e es t h))
  firsts-tie d e ds es s t same Equal h = refl
  firsts-tie d e ds es s t same Greater h =
      absurd (some-none (at-first e es) (sym (same e.0) ∙ at-lower e.0 d ds s (o.antisymm e.0 d.0 ∙ ap ordering_reverse h)))

  at-behind : (q : K) (e : K × X) (es : List (K × X)) → IsStrictlySortedBy R (keys_of (e ∷ es)) → is_eq (R q e.0) ≡ true → at q es ≡ None
  at-behind q e es sorted tied =
      lookup-none (is_at (R q)) es (none_past_head (eq_by_cmp_equiv o) q e es (IsDistinct-from_sorted R _ sorted)
      tied)

  module _ {B : Type 0} (f : K → B) (exact : (x y : K) → R x y ≡ Equal → f x ≡ f y) where
    -- pairs in order with the same at each key are the same pairs, as far as f tells keys apart
    pub same-pairs : (ds es : List (K × X)) → IsStrictlySortedBy R (keys_of ds) → IsStrictlySortedBy R (keys_of es) →
        ((q : K) → at q ds ≡ at q es)
        → map_keys f ds ≡ map_keys f es
    same-pairs [] [] s t same = refl
    same-pairs [] (e ∷ es) s t same = absurd (some-none (at-first e es) (sym (same e.0)))
    same-pairs (d ∷ ds) [] s t same = absurd (some-none (at-first d ds) (same d.0))
    same-pairs (d ∷ ds) (e ∷ es) s t same =
        let tie = firsts-tie d e ds es s t same (R d.0 e.0) refl in
        let held : d.1 ≡ e.1 = ap (λ u. unwrap_or u d.1)
        (sym (at-first d ds) ∙ same d.0 ∙ lookup_head (is_at (R d.0)) e es (ap is_eq tie)) in
        let alike : (q : K) → is_eq (R q d.0) ≡ is_eq (R q e.0) = λ q. tied-alike o q d.0 e.0 tie in
        let rest : (q : K) → at q ds ≡ at q es =
        λ q. ⊎_elim
        (λ y. at-behind q d ds s y ∙ sym (at-behind q e es t (sym (alike q) ∙ y)))
        (λ n. sym (lookup_tail (is_at (R q)) d ds n) ∙ same q ∙ lookup_tail (is_at (R q)) e es (sym (alike q) ∙ n))
        (cases_Bool (is_eq (R q d.0))) in
        ap₂ (λ k ps. k ∷ ps) (ap₂ (λ k x. (k, x)) (exact d.0 e.0 tie) held)
        (same-pairs ds es (sorted_tail R d.0 (keys_of ds) s) (sorted_tail R e.0 (keys_of es) t) rest)

    -- where the pairs are in order, they are the map's
    pub in-order : (xs : List (K × X)) (n : BTreeMap K X) → IsFromIterResult R xs n →
        IsStrictlySortedBy R (keys_of xs) → map_keys f n.entries ≡ map_keys f xs
    in-order xs n made sorted =
        same-pairs n.entries xs made.1 sorted
        (λ q. made.0 q ∙ update_all_none (eq_by_cmp_equiv o) (eq_by_cmp R) (λ x y. refl) xs q
        (IsDistinct-from_sorted R (keys_of xs) sorted))

  -- one more pair in order
  at-insert_by : (q k : K) (v : X) (e : K × X) (es : List (K × X)) →
      at q (insert_entry R es k v) ≡ cond (is_eq (R k q)) (Some v) (at q es) → (r : Ordering) → R k e.0 ≡ r
      → at q (match_ordering r ((k, v) ∷ e ∷ es) ((e.0, v) ∷ es) (e ∷ insert_entry R es k v)) ≡ cond (is_eq (R k q))
      (Some v) (at q (e ∷ es))
  at-insert_by q k v e es later Less h = ap (λ b. cond b (Some v) (at q (e ∷ es))) ((eq_by_cmp_equiv o).symm q k)
  at-insert_by q k v e es later Equal h =
      cond-again (is_eq (R q e.0)) (Some v) (Some e.1) (at q es) ∙
      ap (λ b. cond b (Some v) (at q (e ∷ es))) (sym (tied-alike o q k e.0 h) ∙ (eq_by_cmp_equiv o).symm q k)
  at-insert_by q k v e es later Greater h =
      ap (cond (is_eq (R q e.0)) (Some e.1)) later
      ∙ cond-swap (is_eq (R q e.0)) (is_eq (R k q)) (Some e.1) (Some v) (at q es)
      (λ y z. true≢false (sym ((eq_by_cmp_equiv o).congr k q e.0 z ∙ y) ∙ ap is_eq h))

  at-insert : (q k : K) (v : X) (es : List (K × X)) → at q (insert_entry R es k v) ≡ cond (is_eq (R k q)) (Some v) (at q es)
  at-insert q k v [] = ap (λ b. cond b (Some v) None) ((eq_by_cmp_equiv o).symm q k)
  at-insert q k v (e ∷ es) = at-insert_by q k v e es (at-insert q k v es) (R k e.0) refl

  -- pairs in order, with each of a list put among them in turn
  abbrev pub inserted : List (K × X) → List (K × X) → List (K × X)
  inserted es [] = es
  inserted es (x ∷ xs) = inserted (insert_entry R es x.0 x.1) xs

  pub at-inserted : (es xs : List (K × X)) (q : K) → update_all (eq_by_cmp R) (λ p. at p es) xs q ≡ at q (inserted es xs)
  at-inserted es [] q = refl
  at-inserted es (x ∷ xs) q =
      ap (λ f. update_all (eq_by_cmp R) f xs q) (λ i p. sym (at-insert p x.0 x.1 es) i) ∙ at-inserted (insert_entry R es x.0 x.1) xs q

-- ---- members, named by what a key is read as

module _ {K X : Type 0} (f : K → List ℕ) (seen : X → Data) where
  abbrev pub named : List (List ℕ × X) → Members
  named [] = no_members
  named (e ∷ es) = member e.0 (seen e.1) (named es)

  abbrev by_name : K → K → Ordering
  by_name k l = slice_cmp nat_cmp (f k) (f l)

  keys-below : (k : K) (es : List (K × X)) → IsBelow (f k) (named (map_keys f es)) → AllByRecursion (λ l. by_name k l ≡ Less) (keys_of es)
  keys-below k [] h = tt
  keys-below k (e ∷ es) h = (h.0, keys-below k es h.1)

  pub keys-sorted : (es : List (K × X)) → IsSorted (named (map_keys f es)) → IsStrictlySortedBy by_name (keys_of es)
  unfolding IsStrictlySortedBy
  keys-sorted [] h = tt
  keys-sorted (e ∷ es) h = (keys-below e.0 es h.0, keys-sorted es h.1)
