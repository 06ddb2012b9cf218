-- A map of data beside the members that it stands for.
use Rattle.std.proofs.Common.{◌≡◌, ℕ, List, [], ◌∷◌, ◌++◌, map, String, Global, Ordering, Less, Equal, Greater}
use Rattle.std.proofs.Common.{string_bytes, string_cmp, nat_cmp, refl, sym, ap, subst, ◌∙◌}
use Rattle.std.specs.Ordering.{match_ordering}
use Rattle.std.specs.BTreeMap.{insert_entry}
use Rattle.std.specs.Cmp.Lexicographic.{slice_cmp}
use Rattle.std.specs.Ordering.{ordering_reverse}
use Rattle.std.specs.List.{AllByRecursion}
use Rattle.std.specs.List.Sorted.{IsStrictlySortedBy}
use Rattle.std.specs.Map.{keys_of}
use Rattle.std.specs.BTreeMap.{BTreeMap, IsFromIterResult}
use Rattle.std.specs.String.{string_cmp_total}
use Rattle.std.proofs.lemmas.Map.Lookups.{map_keys, exact_bytes}
use Rattle.std.proofs.lemmas.Cmp.{nat_list_cmp_total}
use Rattle.serde_json.specs.Data as json
use Rattle.fp_base.specs.Sorted.{IsBelow, IsSorted}
use Rattle.fp_base.specs.TreeView.{tree_view, tree_items, tree_members}
use Rattle.fp_base.specs.TreeView as tree
use Rattle.fp_base.proofs.Collected.{named, in-order, keys-sorted}
use Rattle.fp_base.specs.declared.tree.Tree.{Tree}
use Rattle.fp_base.proofs.Sorted.{AreAfter, append, append-one, append-none, put-after, all_after-append, all_after-none}
use Rattle.fp_operators.specs.Data.{Data, item, Members, no_members, member, put}
use Rattle.fp_operators.specs.View.{view, items_of, members_view}
use Rattle.fp_operators.specs.FromJson.{data_of, items_from, members_from}
use Rattle.fp_operators.specs.declared.datum.Datum.{Datum}

abbrev pub Entry : Type 0
Entry = String Global × Datum

members_view-match_ordering : (o : Ordering) (a b c : List Entry) →
    members_view (match_ordering o a b c) ≡ match_ordering o (members_view a) (members_view b) (members_view c)
members_view-match_ordering Less a b c = refl
members_view-match_ordering Equal a b c = refl
members_view-match_ordering Greater a b c = refl

pub members_view-insert_entry : (es : List Entry) (k : String Global) (v : Datum) →
    members_view (insert_entry string_cmp es k v) ≡ put (string_bytes k) (view v) (members_view es)
members_view-insert_entry [] k v = refl
members_view-insert_entry (e ∷ es) k v = members_view-match_ordering (string_cmp k e.0) _ _ _ ∙ rw (members_view-insert_entry es k v)

members_from-match_ordering : (o : Ordering) (a b c : json.Members) →
    members_from (match_ordering o a b c) ≡ match_ordering o (members_from a) (members_from b) (members_from c)
members_from-match_ordering Less a b c = refl
members_from-match_ordering Equal a b c = refl
members_from-match_ordering Greater a b c = refl

pub members_from-put : (k : List ℕ) (d : json.Data) (ms : json.Members) →
    members_from (json.put k d ms) ≡ put k (data_of d) (members_from ms)
members_from-put k d json.no_members = refl
members_from-put k d (json.member l e ms) =
    members_from-match_ordering (slice_cmp nat_cmp k l) (json.member k d (json.member l e ms)) (json.member l d ms)
    (json.member l e (json.put k d ms))
    ∙ rw (members_from-put k d ms)

-- the items of a list, one by one
pub items_from-tree_items : (ts : List Tree) → items_of (map (λ t. data_of (tree_view t)) ts) ≡ items_from (tree_items ts)
items_from-tree_items [] = refl
items_from-tree_items (t ∷ ts) = ap (item (data_of (tree_view t))) (items_from-tree_items ts)

-- what a map has, where members were put into it in their order: all of them but those that are left
pub record IsFilledTo (found : Members) (left all : json.Members) : Type 0 where
  pub done : json.Members
  pub is : found ≡ members_from done
  pub split : append done left ≡ all
  pub after : AreAfter done left
  pub sorted : IsSorted left

pub filled-none : (all : json.Members) → IsSorted all → IsFilledTo no_members all all
filled-none all s = record { done = json.no_members; is = refl; split = refl; after = all_after-none all; sorted = s }

-- one member more is put behind those that it has
pub filled-more : (found : Members) (k : List ℕ) (d : json.Data) (left all : json.Members) → IsFilledTo found (json.member k d left) all
    → IsFilledTo (put k (data_of d) found) left all
filled-more found k d left all f = record {
  done = append f.done (json.member k d json.no_members);
  is = ap (put k (data_of d)) f.is ∙ sym (members_from-put k d f.done) ∙ ap members_from (put-after k d f.done f.after.0);
  split = append-one f.done k d left ∙ f.split;
  after = all_after-append f.done left k d f.after.1 f.sorted.0;
  sorted = f.sorted.1;
}

pub filled-whole : (found : Members) (all : json.Members) → IsFilledTo found json.no_members all → found ≡ members_from all
filled-whole found all f = f.is ∙ ap members_from (sym (append-none f.done) ∙ f.split)

below_middle : (first : Entry) (es : List Entry) (e : Entry) (more : List Entry) →
    AllByRecursion (λ y. string_cmp first.0 y ≡ Less) (keys_of (es ++ e ∷ more)) → string_cmp first.0 e.0 ≡ Less
below_middle first [] e more h = h.0
below_middle first (x ∷ es) e more h = below_middle first es e more h.1

-- a key that is above those before it goes last
pub put_last : (done : List Entry) (e : Entry) (more : List Entry) → IsStrictlySortedBy string_cmp (keys_of (done ++ e ∷ more))
    → put (string_bytes e.0) (view e.1) (members_view done) ≡ members_view (done ++ e ∷ [])
unfolding IsStrictlySortedBy
put_last [] e more h = refl
put_last (first ∷ done) e more h =
    let above : slice_cmp nat_cmp (string_bytes e.0) (string_bytes first.0) ≡ Greater =
    nat_list_cmp_total.antisymm (string_bytes e.0) (string_bytes first.0) ∙ ap ordering_reverse (below_middle first done e more h.0) in
    rw above (ap (member (string_bytes first.0) (view first.1)) (put_last done e more h.1))

-- ---- a map made at once, of a list of members in order

abbrev text : String Global → List ℕ
text k = string_bytes k

-- a member as data, and that of a tree
abbrev pub seen_entry : Entry → List ℕ × Data
seen_entry e = (string_bytes e.0, view e.1)

abbrev pub read_entry : tree.Entry → List ℕ × Data
read_entry m = (m.0.now, data_of (tree_view m.1))

abbrev listed : List (List ℕ × Data) → Members
listed [] = no_members
listed (p ∷ ps) = member p.0 p.1 (listed ps)

listed-seen : (es : List Entry) → members_view es ≡ listed (map seen_entry es)
listed-seen [] = refl
listed-seen (e ∷ es) = ap (member (string_bytes e.0) (view e.1)) (listed-seen es)

listed-read : (ms : List tree.Entry) → members_from (tree_members ms) ≡ listed (map read_entry ms)
listed-read [] = refl
listed-read (m ∷ ms) = ap (member m.0.now (data_of (tree_view m.1))) (listed-read ms)

abbrev keyed : List (List ℕ × Datum) → Members
keyed [] = no_members
keyed (p ∷ ps) = member p.0 (view p.1) (keyed ps)

keyed-view : (es : List Entry) → members_view es ≡ keyed (map_keys text es)
keyed-view [] = refl
keyed-view (e ∷ es) = ap (member (string_bytes e.0) (view e.1)) (keyed-view es)

-- their names, each with nothing
abbrev bare : List (List ℕ × Data) → json.Members
bare [] = json.no_members
bare (p ∷ ps) = json.member p.0 json.null (bare ps)

abbrev nothing : Datum → json.Data
nothing d = json.null

bare-keys : (es : List Entry) → bare (map seen_entry es) ≡ named text nothing (map_keys text es)
bare-keys [] = refl
bare-keys (e ∷ es) = ap (json.member (string_bytes e.0) json.null) (bare-keys es)

below-bare : (k : List ℕ) (ms : List tree.Entry) → IsBelow k (tree_members ms) → IsBelow k (bare (map read_entry ms))
below-bare k [] h = tt
below-bare k (m ∷ ms) h = (h.0, below-bare k ms h.1)

sorted-bare : (ms : List tree.Entry) → IsSorted (tree_members ms) → IsSorted (bare (map read_entry ms))
sorted-bare [] h = tt
sorted-bare (m ∷ ms) h = (below-bare m.0.now ms h.0, sorted-bare ms h.1)

pub collected : (xs : List Entry) (ms : List tree.Entry) (n : BTreeMap (String Global) Datum) →
    IsFromIterResult string_cmp xs n → map seen_entry xs ≡ map read_entry ms
    → IsSorted (tree_members ms) → members_view n.entries ≡ members_from (tree_members ms)
collected xs ms n made same sorted =
    let up = subst IsSorted (ap bare (sym same) ∙ bare-keys xs) (sorted-bare ms sorted) in
    keyed-view n.entries
    ∙ ap keyed (in-order string_cmp_total text (λ x y h. exact_bytes (text x) (text y) h) xs n made (keys-sorted text nothing xs up))
    ∙ sym (keyed-view xs)
    ∙ listed-seen xs
    ∙ ap listed same
    ∙ sym (listed-read ms)
