-- Lists of members, in ascending order of their names.
use Rattle.std.proofs.Common.{◌≡◌, ℕ, List, [], ◌∷◌, ◌++◌, Ordering, Less, Equal, Greater, nat_cmp, string_bytes, refl, sym, ap, ◌∙◌}
use Rattle.std.specs.Ordering.{match_ordering}
use Rattle.std.specs.Borrow.{Bor}
use Rattle.std.specs.BTreeMap.{insert_entry}
use Rattle.std.specs.Cmp.Lexicographic.{slice_cmp}
use Rattle.std.specs.List.{AllByRecursion}
use Rattle.std.specs.List.Sorted.{IsStrictlySortedBy}
use Rattle.std.specs.Map.{keys_of}
use Rattle.std.specs.String.{string_cmp}
use Rattle.serde_json.specs.Data.{no_members, member, put}
use Rattle.serde_json.specs.View.{view, members_view}
use Rattle.serde_json.proofs.Views as values
use Rattle.fp_base.specs.Ordered.{IsOrdered, AreOrdered, MembersAreOrdered}
use Rattle.fp_base.specs.Sorted.{IsBelow, IsSorted}
use Rattle.fp_base.specs.TreeView.{Entry, tree_view, tree_items, tree_members}
use Rattle.fp_base.specs.declared.tree.Tree.{Tree}
use Rattle.fp_base.proofs.Sorted.{append, turned}

pub below-middle : (k : List ℕ) (es : List Entry) (e : Entry) (more : List Entry) →
    IsBelow k (tree_members (es ++ e ∷ more)) → slice_cmp nat_cmp k e.0.now ≡ Less
below-middle k [] e more h = h.0
below-middle k (x ∷ es) e more h = below-middle k es e more h.1

-- a member whose name comes behind those before it goes last
pub put-last : (done : List Entry) (e : Entry) (more : List Entry) → IsSorted (tree_members (done ++ e ∷ more))
    → put e.0.now (tree_view e.1) (tree_members done) ≡ tree_members (done ++ e ∷ [])
put-last [] e more h = refl
put-last (x ∷ done) e more h =
    ap (λ o. match_ordering o (member e.0.now (tree_view e.1) (tree_members (x ∷ done)))
    (member x.0.now (tree_view e.1) (tree_members done))
    (member x.0.now (tree_view x.1) (put e.0.now (tree_view e.1) (tree_members done))))
    (turned x.0.now e.0.now Less (below-middle x.0.now done e more h.0))
    ∙ ap (member x.0.now (tree_view x.1)) (put-last done e more h.1)

-- ---- one more at the end

pub items_ordered-more : (ts : List Tree) (t : Tree) → AreOrdered (tree_items ts) → IsOrdered (tree_view t) →
    AreOrdered (tree_items (ts ++ t ∷ []))
items_ordered-more [] t h o = (o, tt)
items_ordered-more (x ∷ ts) t h o = (h.0, items_ordered-more ts t h.1 o)

pub members_ordered-more : (ms : List Entry) (m : Entry) → MembersAreOrdered (tree_members ms) →
    IsOrdered (tree_view m.1) → MembersAreOrdered (tree_members (ms ++ m ∷ []))
members_ordered-more [] m h o = (o, tt)
members_ordered-more (x ∷ ms) m h o = (h.0, members_ordered-more ms m h.1 o)

pub members-more : (ms : List Entry) (m : Entry) →
    tree_members (ms ++ m ∷ []) ≡ append (tree_members ms) (member m.0.now (tree_view m.1) no_members)
members-more [] m = refl
members-more (x ∷ ms) m = ap (member x.0.now (tree_view x.1)) (members-more ms m)

values-more : (es : List values.Entry) (e : values.Entry) →
    members_view (es ++ e ∷ []) ≡ append (members_view es) (member (string_bytes e.0) (view e.1) no_members)
values-more [] e = refl
values-more (x ∷ es) e = ap (member (string_bytes x.0) (view x.1)) (values-more es e)

-- a member of a tree beside that of a value
pub same-more : (ms : List Entry) (m : Entry) (es : List values.Entry) (e : values.Entry) →
    tree_members ms ≡ members_view es → m.0.now ≡ string_bytes e.0 → tree_view m.1 ≡ view e.1
    → tree_members (ms ++ m ∷ []) ≡ members_view (es ++ e ∷ [])
same-more ms m es e all name same = members-more ms m ∙ rw (all, name, same) (sym (values-more es e))

-- ---- maps of values

below-keys : (k : List ℕ) (es : List values.Entry) →
    AllByRecursion (λ y. slice_cmp nat_cmp k (string_bytes y) ≡ Less) (keys_of es) → IsBelow k (members_view es)
below-keys k [] h = tt
below-keys k (e ∷ es) h = (h.0, below-keys k es h.1)

pub sorted-keys : (es : List values.Entry) → IsStrictlySortedBy string_cmp (keys_of es) → IsSorted (members_view es)
unfolding IsStrictlySortedBy
sorted-keys [] h = tt
sorted-keys (e ∷ es) h = (below-keys (string_bytes e.0) es h.0, sorted-keys es h.1)

-- ---- maps of trees

abbrev pub entry_cmp : Bor (List ℕ) → Bor (List ℕ) → Ordering
entry_cmp a b = slice_cmp nat_cmp a.now b.now

by-order : (o : Ordering) (a b c : List Entry) →
    tree_members (match_ordering o a b c) ≡ match_ordering o (tree_members a) (tree_members b) (tree_members c)
by-order Less a b c = refl
by-order Equal a b c = refl
by-order Greater a b c = refl

-- a map with one entry more
pub members-insert : (es : List Entry) (k : Bor (List ℕ)) (t : Tree) →
    tree_members (insert_entry entry_cmp es k t) ≡ put k.now (tree_view t) (tree_members es)
members-insert [] k t = refl
members-insert (e ∷ es) k t = by-order (entry_cmp k e.0) _ _ _ ∙
    ap (match_ordering (entry_cmp k e.0) _ _) (ap (member e.0.now (tree_view e.1)) (members-insert es k t))
