-- Members gathered in order, with those behind them that wait.
use Rattle.std.proofs.Common.{◌≡◌, List, ℕ, [], ◌∷◌, ◌++◌, length, reverse, Less, nat_cmp, refl, sym, ap, subst, ◌∙◌}
use Rattle.std.proofs.Common.{arith, append_assoc, append-nil}
use Rattle.std.specs.Borrow.{Bor}
use Rattle.std.specs.BTreeMap.{insert_entry}
use Rattle.std.specs.Cmp.{IsTotalOrder}
use Rattle.std.specs.List.Sorted.{IsStableBy, IsStrictlySortedBy}
use Rattle.std.specs.Map.{keys_of}
use Rattle.std.specs.Cmp.Lexicographic.{slice_cmp}
use Rattle.std.specs.Ordering.{is_lt, match_ordering}
use Rattle.std.proofs.lemmas.Cmp.{nat_list_cmp_total}
use Rattle.std.proofs.lemmas.List.{reverse-append}
use Rattle.std.proofs.lemmas.Map.Lookups.{map_keys, exact_bytes}
use Rattle.serde_json.specs.Data.{Members, no_members, member, put}
use Rattle.fp_base.specs.Gathered.{laid, IsFalling}
use Rattle.fp_base.specs.Places.{AreBefore}
use Rattle.fp_base.specs.Sorted.{IsBelow, IsSorted}
use Rattle.fp_base.specs.TreeView.{Entry, tree_view, tree_members}
use Rattle.fp_base.proofs.Collected.{named, inserted, at-inserted, keys-sorted, same-pairs}
use Rattle.fp_base.proofs.Entries.{entry_cmp, members-insert, put-last}
use Rattle.fp_base.proofs.Halves.{put-behind, sorted-behind}
use Rattle.fp_base.proofs.Sorted.{below-trans, sorted-put}
use Rattle.fp_base.proofs.Stable.{alike}

abbrev pub name : Bor (List ℕ) → List ℕ
name k = k.now

pub names_total : IsTotalOrder entry_cmp
names_total = record {
  antisymm = λ x y. nat_list_cmp_total.antisymm x.now y.now;
  trans = λ x y z. nat_list_cmp_total.trans x.now y.now z.now;
  congr = λ x y z. nat_list_cmp_total.congr x.now y.now z.now;
}

trees-named : (es : List Entry) → tree_members es ≡ named name tree_view (map_keys name es)
trees-named [] = refl
trees-named (e ∷ es) = ap (member e.0.now (tree_view e.1)) (trees-named es)

laid-append : (ms : Members) (xs ys : List Entry) → laid ms (xs ++ ys) ≡ laid (laid ms xs) ys
laid-append ms [] ys = refl
laid-append ms (x ∷ xs) ys = laid-append (put x.0.now (tree_view x.1) ms) xs ys

laid-behind : (done xs : List Entry) → IsSorted (tree_members (done ++ xs)) → laid (tree_members done) xs ≡ tree_members (done ++ xs)
laid-behind done [] h = ap tree_members (sym (append-nil done))
laid-behind done (x ∷ xs) h =
    let same = append_assoc done (x ∷ []) xs in
    ap (λ ms. laid ms xs) (put-last done x xs h) ∙
    laid-behind (done ++ x ∷ []) xs (subst (λ ys. IsSorted (tree_members ys)) (sym same) h) ∙ ap tree_members same

pub sorted-laid : (ms : Members) (es : List Entry) → IsSorted ms → IsSorted (laid ms es)
sorted-laid ms [] h = h
sorted-laid ms (e ∷ es) h = sorted-laid (put e.0.now (tree_view e.1) ms) es (sorted-put e.0.now (tree_view e.1) ms h)

members-inserted : (es xs : List Entry) → tree_members (inserted names_total es xs) ≡ laid (tree_members es) xs
members-inserted es [] = refl
members-inserted es (x ∷ xs) = members-inserted (insert_entry entry_cmp es x.0 x.1) xs ∙ ap (λ ms. laid ms xs) (members-insert es x.0 x.1)

-- those in order and those that came behind them, put in turn among none
pub laid_together : (ordered waiting all : List Entry) → IsSorted (tree_members ordered) → all ≡ ordered ++ waiting →
    laid no_members all ≡ laid (tree_members ordered) waiting
laid_together ordered waiting all sorted is = ap (laid no_members) is ∙ laid-append no_members ordered waiting ∙
    ap (λ ms. laid ms waiting) (laid-behind [] ordered sorted)

inserted-sorted : (xs : List Entry) → IsStrictlySortedBy entry_cmp (keys_of (inserted names_total [] xs))
inserted-sorted xs =
    let es = inserted names_total [] xs in
    let made : tree_members es ≡ laid no_members xs = members-inserted [] xs in
    keys-sorted name tree_view es (subst IsSorted (trees-named es) (subst IsSorted (sym made) (sorted-laid no_members xs tt)))

-- what a stable sort by the names leaves makes the same members
pub laid-sorted : (xs ys : List Entry) → length ys ≡ length xs →
    IsStableBy (λ (p : Entry) (q : Entry). is_lt (entry_cmp p.0 q.0)) xs ys → laid no_members ys ≡ laid no_members xs
laid-sorted xs ys len stable =
    let one = inserted names_total [] ys in
    let other = inserted names_total [] xs in
    sym (members-inserted [] ys)
    ∙ trees-named one
    ∙ ap (named name tree_view)
    (same-pairs names_total name (λ x y h. exact_bytes x.now y.now h) one other (inserted-sorted ys) (inserted-sorted xs)
    (λ q. sym (at-inserted names_total [] ys q) ∙ alike names_total q xs ys len stable ∙ at-inserted names_total [] xs q))
    ∙ sym (trees-named other)
    ∙ members-inserted [] xs

-- one more at the end of those that wait
pub laid-last : (ms : Members) (es new : List Entry) (m : Entry) → new ≡ es ++ m ∷ [] →
    laid ms new ≡ put m.0.now (tree_view m.1) (laid ms es)
laid-last ms es new m is = ap (laid ms) is ∙ laid-append ms es (m ∷ [])

-- one more at the end of those in order
pub put-at_end : (ms new : List Entry) (m : Entry) → AreBefore m.0.now ms → new ≡ ms ++ m ∷ [] →
    tree_members new ≡ put m.0.now (tree_view m.1) (tree_members ms)
put-at_end ms new m before is =
    ap tree_members is
    ∙ sym (put-behind m.0.now (tree_view m.1) ms [] (m ∷ []) before refl)
    ∙ ap (λ ys. put m.0.now (tree_view m.1) (tree_members ys)) (append-nil ms)

-- where none waits
pub none-waits : (ms : Members) (es : List Entry) → length es ≡ 0 → laid ms es ≡ ms
none-waits ms [] h = refl
none-waits ms (e ∷ es) h = absurd (omega arith)

-- ---- in descending order

-- one more at the end comes first from behind
pub reverse-more : (es : List Entry) (m : Entry) → reverse (es ++ m ∷ []) ≡ m ∷ reverse es
reverse-more es m = reverse-append es (m ∷ [])

turned-on : (e : Entry) (es done : List Entry) → reverse (e ∷ es) ++ done ≡ reverse es ++ e ∷ done
turned-on e es done = ap (λ xs. xs ++ done) (reverse-append (e ∷ []) es) ∙ append_assoc (reverse es) (e ∷ []) done

put-below : (e : Entry) (done : List Entry) → IsBelow e.0.now (tree_members done) →
    put e.0.now (tree_view e.1) (tree_members done) ≡ tree_members (e ∷ done)
put-below e [] h = refl
put-below e (x ∷ xs) h =
    ap (λ o. match_ordering o (tree_members (e ∷ x ∷ xs)) (member x.0.now (tree_view e.1) (tree_members xs))
    (member x.0.now (tree_view x.1) (put e.0.now (tree_view e.1) (tree_members xs)))) h.0

falling-laid : (done es : List Entry) → IsSorted (tree_members (reverse es ++ done)) →
    laid (tree_members done) es ≡ tree_members (reverse es ++ done)
falling-laid done [] h = refl
falling-laid done (e ∷ es) h =
    let same = turned-on e es done in
    let sorted = subst (λ ys. IsSorted (tree_members ys)) same h in
    let here = sorted-behind (reverse es) (e ∷ done) sorted in
    ap (λ ms. laid ms es) (put-below e done here.0) ∙ falling-laid (e ∷ done) es sorted ∙ ap tree_members (sym same)

-- laid among none they are turned
pub turned-laid : (es : List Entry) → IsFalling es → tree_members (reverse es) ≡ laid no_members es
turned-laid es h =
    let same = append-nil (reverse es) in
    sym (falling-laid [] es (subst (λ ys. IsSorted (tree_members ys)) (sym same) h) ∙ ap tree_members same)

-- below the last of them
pub below-last : (name : List ℕ) (ms front : List Entry) (m : Entry) → IsFalling ms → ms ≡ front ++ m ∷ [] →
    slice_cmp nat_cmp name m.0.now ≡ Less → IsBelow name (tree_members (reverse ms))
below-last name ms front m h is less =
    let same = ap reverse is ∙ reverse-more front m in
    let sorted = subst (λ ys. IsSorted (tree_members ys)) same h in
    subst (λ ys. IsBelow name (tree_members ys)) (sym same) (less, below-trans name m.0.now (tree_members (reverse front)) less sorted.0)

-- one alone
pub alone-falls : (es : List Entry) → length es ≡ 1 → IsFalling es
alone-falls [] h = absurd (omega arith)
alone-falls (e ∷ []) h = (tt, tt)
alone-falls (e ∷ x ∷ es) h = absurd (omega arith)

pub alone-laid : (es waiting : List Entry) → length es ≡ 1 → length waiting ≡ 0 → laid no_members es ≡ laid (tree_members es) waiting
alone-laid [] waiting h none = absurd (omega arith)
alone-laid (e ∷ []) [] h none = refl
alone-laid (e ∷ []) (w ∷ waiting) h none = absurd (omega arith)
alone-laid (e ∷ x ∷ es) waiting h none = absurd (omega arith)

-- where none is in order
pub none-ordered : (es waiting : List Entry) → length es ≡ 0 → laid (tree_members es) waiting ≡ laid no_members waiting
none-ordered [] waiting h = refl
none-ordered (e ∷ es) waiting h = absurd (omega arith)

pub none-falls : (es : List Entry) → length es ≡ 0 → IsFalling es
none-falls [] h = tt
none-falls (e ∷ es) h = absurd (omega arith)

-- what stays in order
pub ruleset still_sorted = (sorted-laid, sorted-put)
