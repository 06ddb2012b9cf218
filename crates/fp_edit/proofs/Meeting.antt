-- Keys that were met, one more of them.
use Rattle.std.proofs.Common.{◌≡◌, ◌||◌, ℕ, Bool, true, false, List, [], ◌∷◌, map, Ordering, Less, Equal, Greater, refl, sym, ap, ap₂, ◌∙◌}
use Rattle.std.specs.Borrow.{Bor}
use Rattle.std.specs.BTreeMap.{is_at}
use Rattle.std.specs.BTreeSet.{insert_key}
use Rattle.std.specs.List.{list_any}
use Rattle.std.specs.Ordering.{match_ordering}
use Rattle.std.specs.Prelude.{bytes_eq}
use Rattle.std.specs.Cmp.Lexicographic.{texts_ties}
use Rattle.std.proofs.lemmas.Map.Lookups.{exact_bytes}
use Rattle.fp_base.specs.Bytes.{bytes_cmp}
use Rattle.fp_edit.specs.Changes.{is_among}

abbrev pub Key : Type 0
Key = Bor (List ℕ)

abbrev pub key_cmp : Key → Key → Ordering
key_cmp a b = bytes_cmp a.now b.now

abbrev pub texts : List Key → List (List ℕ)
texts ks = map (λ k. k.now) ks

or_again : (a b : Bool) → (a || b) ≡ (a || (a || b))
or_again true b = refl
or_again false b = refl

or_swap : (a b c : Bool) → (a || (b || c)) ≡ (b || (a || c))
or_swap true true c = refl
or_swap true false c = refl
or_swap false true c = refl
or_swap false false c = refl

-- whether a key is among others, as the set of them tells
pub found-among : (k : Key) (ks : List Key) → list_any (is_at (key_cmp k)) ks ≡ is_among k.now (texts ks)
found-among k [] = refl
found-among k (l ∷ ks) = ap₂ (λ a b. a || b) (sym (texts_ties k.now l.now)) (found-among k ks)

-- the keys, with one more
among-by : (q : List ℕ) (k l : Key) (ks : List Key) →
    is_among q (texts (insert_key key_cmp ks k)) ≡ (bytes_eq q k.now || is_among q (texts ks)) → (r : Ordering) →
    key_cmp k l ≡ r
    → is_among q (texts (match_ordering r (k ∷ l ∷ ks) (l ∷ ks) (l ∷ insert_key key_cmp ks k))) ≡
    (bytes_eq q k.now || is_among q (texts (l ∷ ks)))
among-by q k l ks rest Less h = refl
among-by q k l ks rest Equal h =
    or_again (bytes_eq q l.now) (is_among q (texts ks)) ∙
    ap (λ x. bytes_eq q x || is_among q (texts (l ∷ ks))) (sym (exact_bytes k.now l.now h))
among-by q k l ks rest Greater h = ap (λ b. bytes_eq q l.now || b) rest ∙
    or_swap (bytes_eq q l.now) (bytes_eq q k.now) (is_among q (texts ks))

pub among-inserted : (q : List ℕ) (k : Key) (ks : List Key) →
    is_among q (texts (insert_key key_cmp ks k)) ≡ (bytes_eq q k.now || is_among q (texts ks))
among-inserted q k [] = refl
among-inserted q k (l ∷ ks) = among-by q k l ks (among-inserted q k ks) (key_cmp k l) refl
