-- The sets that a map's entries make: after an insert, a removal and a write, and in order.
use Rattle.std.proofs.Common.{◌≡◌, T, ◌&&◌, ℕ, List, [], ◌∷◌, ◌++◌, map, length, Ordering, Less, Equal, Greater, Some}
use Rattle.std.proofs.Common.{None, cond, Bool, true, false, is_eq, is_some, refl, sym, ap, ap₂, subst, ◌∙◌}
use Rattle.std.proofs.Common.{append_assoc}
use Rattle.std.specs.Ordering.{match_ordering, eq_by_cmp, is_lt}
use Rattle.std.specs.Map.{lookup, remove_entry, set_value, keys_of}
use Rattle.std.specs.List.{AllByRecursion}
use Rattle.std.specs.List.Sorted.{IsStrictlySortedBy}
use Rattle.std.specs.BTreeMap.{BTreeMap, IsFromIterResult, insert_entry, is_at}
use Rattle.std.specs.Cmp.{eq_by_cmp_equiv, Equal-is}
use Rattle.std.proofs.lemmas.Cmp.{nat_list_cmp_total, on_total}
use Rattle.std.proofs.lemmas.List.{length-map, map-append}
use Rattle.std.proofs.lemmas.Map.{lookup-remove_entry, lookup-set_value}
use Rattle.std.proofs.lemmas.Map.Keys.{IsDistinct-from_sorted}
use Rattle.std.proofs.lemmas.Map.Lookups.{exact_bytes}
use Rattle.std.specs.FinMap as fin
use Rattle.std.specs.FinMap.Entries.{by_order, put, find, find-put, below_all, is_sorted}
use Rattle.fp_base.proofs.Collected.{in-order}
use Rattle.fp_base.specs.Bytes.{bytes_cmp}
use Rattle.fp_definition.specs.Key.{key_bytes, flag_cmp}
use Rattle.fp_definition.specs.declared.key.FlagKey.{FlagKey}
use Rattle.fp_documents.specs.Entries.{entry_of, flags_of}
use Rattle.fp_documents.specs.declared.flags.Flag.{Flag}
use Rattle.fp_documents.proofs.Sizes.{first, second, less}

abbrev pub Entry : Type 0
Entry = FlagKey × Flag

find-mapped : (es : List Entry) (q : List ℕ) → find bytes_cmp q (map entry_of es) ≡ lookup (is_at (λ k. bytes_cmp q (key_bytes k))) es
find-mapped [] q = refl
find-mapped (e ∷ es) q = ap (cond (is_eq (bytes_cmp q (key_bytes e.0))) (Some e.1)) (find-mapped es q)

-- what the flags have at a key
pub get-flags_of : (es : List Entry) (q : List ℕ) → fin.get (flags_of es) q ≡ lookup (is_at (λ k. bytes_cmp q (key_bytes k))) es
get-flags_of es q = fin.get-from_entries nat_list_cmp_total (map entry_of es) q ∙ find-mapped es q

map_ordered : (o : Ordering) (a b c : List Entry) →
    map entry_of (match_ordering o a b c) ≡ by_order o (map entry_of a) (map entry_of b) (map entry_of c)
map_ordered Less a b c = refl
map_ordered Equal a b c = refl
map_ordered Greater a b c = refl

mapped_insert : (es : List Entry) (k : FlagKey) (f : Flag) →
    map entry_of (insert_entry flag_cmp es k f) ≡ put bytes_cmp (key_bytes k) f (map entry_of es)
mapped_insert [] k f = refl
mapped_insert (e ∷ es) k f =
    map_ordered (flag_cmp k e.0) ((k, f) ∷ e ∷ es) ((e.0, f) ∷ es) (e ∷ insert_entry flag_cmp es k f)
    ∙ ap (λ r. by_order (flag_cmp k e.0) (entry_of (k, f) ∷ entry_of e ∷ map entry_of es)
    (entry_of (e.0, f) ∷ map entry_of es) (entry_of e ∷ r)) (mapped_insert es k f)

-- after an insert
pub flags_of-insert : (es : List Entry) (k : FlagKey) (f : Flag) →
    flags_of (insert_entry flag_cmp es k f) ≡ fin.insert (flags_of es) (key_bytes k) f
flags_of-insert es k f = fin.same_map nat_list_cmp_total exact_bytes _ _ (λ q.
    fin.get-from_entries nat_list_cmp_total (map entry_of (insert_entry flag_cmp es k f)) q
    ∙ ap (find bytes_cmp q) (mapped_insert es k f)
    ∙ find-put bytes_cmp nat_list_cmp_total q (key_bytes k) f (map entry_of es)
    ∙ sym (fin.get-insert nat_list_cmp_total (flags_of es) (key_bytes k) f q
    ∙ ap (cond (eq_by_cmp bytes_cmp q (key_bytes k)) (Some f)) (fin.get-from_entries nat_list_cmp_total (map entry_of es) q)))

map_cond : (b : Bool) (x y : List Entry) → map entry_of (cond b x y) ≡ cond b (map entry_of x) (map entry_of y)
map_cond true x y = refl
map_cond false x y = refl

mapped_remove : (es : List Entry) (q : List ℕ) →
    map entry_of (remove_entry (is_at (λ k. bytes_cmp q (key_bytes k))) es) ≡ remove_entry (is_at (bytes_cmp q))
    (map entry_of es)
mapped_remove [] q = refl
mapped_remove (e ∷ es) q =
    map_cond (is_eq (bytes_cmp q (key_bytes e.0))) es (e ∷ remove_entry (is_at (λ k. bytes_cmp q (key_bytes k))) es)
    ∙ ap (λ r. cond (is_eq (bytes_cmp q (key_bytes e.0))) (map entry_of es) (entry_of e ∷ r)) (mapped_remove es q)

find_is_lookup : (es : List (List ℕ × Flag)) (q : List ℕ) → find bytes_cmp q es ≡ lookup (eq_by_cmp bytes_cmp q) es
find_is_lookup [] q = refl
find_is_lookup (e ∷ es) q = ap (cond (eq_by_cmp bytes_cmp q e.0) (Some e.1)) (find_is_lookup es q)

-- ---- in order

both : (a b : Bool) → T a → T b → T (a && b)
both true b p q = q
both false b p q = p

below : (e : Entry) (es : List Entry) → AllByRecursion (λ y. flag_cmp e.0 y ≡ Less) (keys_of es) →
    T (below_all bytes_cmp (key_bytes e.0) (map entry_of es))
below e [] h = tt
below e (x ∷ es) h = both _ _ (subst (λ o. T (is_lt o)) (sym h.0) tt) (below e es h.1)

pub is_sorted-mapped : (es : List Entry) → IsStrictlySortedBy flag_cmp (keys_of es) → T (is_sorted bytes_cmp (map entry_of es))
unfolding IsStrictlySortedBy
is_sorted-mapped [] h = tt
is_sorted-mapped (e ∷ es) h = both _ _ (below e es h.0) (is_sorted-mapped es h.1)

below_keys : (k : List ℕ) (es : List (List ℕ × Flag)) → T (below_all bytes_cmp k es) →
    AllByRecursion (λ y. bytes_cmp k y ≡ Less) (keys_of es)
below_keys k [] h = tt
below_keys k (e ∷ es) h = (less _ (first _ _ h), below_keys k es (second _ _ h))

pub sorted_keys : (es : List (List ℕ × Flag)) → T (is_sorted bytes_cmp es) → IsStrictlySortedBy bytes_cmp (keys_of es)
unfolding IsStrictlySortedBy
sorted_keys [] h = tt
sorted_keys (e ∷ es) h = (below_keys e.0 es (first _ _ h), sorted_keys es (second _ _ h))

-- ---- a removal

one_key : (k x y : List ℕ) → is_at (bytes_cmp k) x ≡ true → is_at (bytes_cmp k) y ≡ eq_by_cmp bytes_cmp x y
one_key k x y h = ap (λ z. is_eq (bytes_cmp z y)) (exact_bytes k x ((Equal-is (bytes_cmp k x)).0 h))

-- after a removal
pub flags_of-remove : (es : List Entry) (k : FlagKey) → IsStrictlySortedBy flag_cmp (keys_of es)
    → flags_of (remove_entry (is_at (flag_cmp k)) es) ≡ fin.remove (flags_of es) (key_bytes k)
flags_of-remove es k h = fin.same_map nat_list_cmp_total exact_bytes _ _ (λ q.
    fin.get-from_entries nat_list_cmp_total (map entry_of (remove_entry (is_at (flag_cmp k)) es)) q
    ∙ ap (find bytes_cmp q) (mapped_remove es (key_bytes k))
    ∙ find_is_lookup (remove_entry (is_at (bytes_cmp (key_bytes k))) (map entry_of es)) q
    ∙ lookup-remove_entry (eq_by_cmp_equiv nat_list_cmp_total) (is_at (bytes_cmp (key_bytes k)))
    (one_key (key_bytes k)) q (map entry_of es)
    (IsDistinct-from_sorted bytes_cmp _ (sorted_keys _ (is_sorted-mapped es h)))
    ∙ sym (fin.get-remove nat_list_cmp_total (flags_of es) (key_bytes k) q
    ∙ ap (λ b. cond b None (fin.get (flags_of es) q)) ((eq_by_cmp_equiv nat_list_cmp_total).symm q (key_bytes k))
    ∙ ap (cond (eq_by_cmp bytes_cmp (key_bytes k) q) None)
    (fin.get-from_entries nat_list_cmp_total (map entry_of es) q ∙ find_is_lookup (map entry_of es) q)))

-- ---- a flag in the place of another one

mapped_set : (es : List Entry) (q : List ℕ) (f : Flag) →
    map entry_of (set_value (is_at (λ k. bytes_cmp q (key_bytes k))) es f) ≡ set_value (is_at (bytes_cmp q))
    (map entry_of es) f
mapped_set [] q f = refl
mapped_set (e ∷ es) q f =
    map_cond (is_eq (bytes_cmp q (key_bytes e.0))) ((e.0, f) ∷ es) (e ∷ set_value (is_at (λ k. bytes_cmp q (key_bytes k))) es f)
    ∙ ap (λ r. cond (is_eq (bytes_cmp q (key_bytes e.0))) (map entry_of ((e.0, f) ∷ es)) (entry_of e ∷ r)) (mapped_set es q f)

pub flags_of-set : (es : List Entry) (k : FlagKey) (f : Flag) → is_some (fin.get (flags_of es) (key_bytes k)) ≡ true
    → flags_of (set_value (is_at (flag_cmp k)) es f) ≡ fin.insert (flags_of es) (key_bytes k) f
flags_of-set es k f there =
    let found : (q : List ℕ) → fin.get (flags_of es) q ≡ lookup (eq_by_cmp bytes_cmp q) (map entry_of es) = λ q.
    fin.get-from_entries nat_list_cmp_total (map entry_of es) q ∙ find_is_lookup (map entry_of es) q in
    fin.same_map nat_list_cmp_total exact_bytes _ _ (λ q.
    fin.get-from_entries nat_list_cmp_total (map entry_of (set_value (is_at (flag_cmp k)) es f)) q
    ∙ ap (find bytes_cmp q) (mapped_set es (key_bytes k) f)
    ∙ find_is_lookup (set_value (is_at (bytes_cmp (key_bytes k))) (map entry_of es) f) q
    ∙ lookup-set_value (eq_by_cmp_equiv nat_list_cmp_total) (is_at (bytes_cmp (key_bytes k))) (one_key (key_bytes k))
    q f (map entry_of es) (ap is_some (sym (found (key_bytes k))) ∙ there)
    ∙ sym (fin.get-insert nat_list_cmp_total (flags_of es) (key_bytes k) f q
    ∙ ap (λ b. cond b (Some f) (fin.get (flags_of es) q)) ((eq_by_cmp_equiv nat_list_cmp_total).symm q (key_bytes k))
    ∙ ap (cond (eq_by_cmp bytes_cmp (key_bytes k) q) (Some f)) (found q)))

-- ---- the entries

-- the set's entries are the map's
pub entries-flags_of : (es : List Entry) → IsStrictlySortedBy flag_cmp (keys_of es) → fin.entries (flags_of es) ≡ map entry_of es
entries-flags_of es h =
    let sorted = is_sorted-mapped es h in
    let same : flags_of es ≡ fin.from_sorted (map entry_of es) = fin.same_map nat_list_cmp_total exact_bytes _ _ (λ q.
    fin.get-from_entries nat_list_cmp_total (map entry_of es) q ∙ sym (fin.get-from_sorted bytes_cmp (map entry_of es) q sorted)) in
    ap fin.entries same ∙ fin.entries-from_sorted bytes_cmp (map entry_of es) sorted

pub len-flags_of : (es : List Entry) → IsStrictlySortedBy flag_cmp (keys_of es) → fin.len (flags_of es) ≡ length es
len-flags_of es h = fin.len-entries (flags_of es) ∙ ap length (entries-flags_of es h) ∙ length-map es entry_of

-- ---- a copy, made of pairs in order

keys_above : (e : Entry) (es : List Entry) → T (below_all bytes_cmp (key_bytes e.0) (map entry_of es)) →
    AllByRecursion (λ y. flag_cmp e.0 y ≡ Less) (keys_of es)
keys_above e [] h = tt
keys_above e (x ∷ es) h = (less _ (first _ _ h), keys_above e es (second _ _ h))

pub sorted-mapped : (es : List Entry) → T (is_sorted bytes_cmp (map entry_of es)) → IsStrictlySortedBy flag_cmp (keys_of es)
unfolding IsStrictlySortedBy
sorted-mapped [] h = tt
sorted-mapped (e ∷ es) h = (keys_above e es (first _ _ h), sorted-mapped es (second _ _ h))

-- one pair more is copied
pub copied_more : (es : List Entry) (e : Entry) (k : List ℕ) (f : Flag) (rest all : List (List ℕ × Flag)) → key_bytes e.0 ≡ k → e.1 ≡ f
    → map entry_of es ++ (k, f) ∷ rest ≡ all → map entry_of (es ++ e ∷ []) ++ rest ≡ all
copied_more es e k f rest all named same h =
    ap (λ ds. ds ++ rest) (map-append entry_of es (e ∷ []))
    ∙ append_assoc (map entry_of es) (entry_of e ∷ []) rest
    ∙ ap₂ (λ x y. map entry_of es ++ (x, y) ∷ rest) named same
    ∙ h

-- a map that is made at once of pairs in order has these pairs
pub entries-collected : (xs : List Entry) (n : BTreeMap FlagKey Flag) → IsFromIterResult flag_cmp xs n →
    T (is_sorted bytes_cmp (map entry_of xs)) → map entry_of n.entries ≡ map entry_of xs
entries-collected xs n made sorted =
    in-order (on_total key_bytes nat_list_cmp_total) key_bytes (λ x y h. exact_bytes (key_bytes x) (key_bytes y) h)
    xs n made (sorted-mapped xs sorted)
