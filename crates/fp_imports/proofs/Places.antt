-- The member in a place, and another value that is put there.
use Rattle.std.proofs.Common.{◌≡◌, ◌<◌, ℕ, zero, suc, List, [], ◌∷◌, length, get_or, Some, Ordering, Less, Equal}
use Rattle.std.proofs.Common.{Greater, nat_cmp, arith, sym, ap, ◌∙◌}
use Rattle.std.specs.Prelude.{set}
use Rattle.std.proofs.lemmas.List.{get_or_default, set-get_or}
use Rattle.std.specs.Ordering.{match_ordering}
use Rattle.std.specs.Cmp.Lexicographic.{slice_cmp}
use Rattle.serde_json.specs.Data.{Data, object, Members, no_members, member, put}
use Rattle.serde_json.specs.Find.{get_member}
use Rattle.serde_json.proofs.Views.{get_member-put}
use Rattle.fp_base.specs.Ordered.{IsOrdered, MembersAreOrdered}
use Rattle.fp_base.specs.Sorted.{IsBelow, IsSorted}
use Rattle.fp_base.specs.TreeView.{Entry, tree_view, tree_members}
use Rattle.fp_base.specs.declared.tree.Tree.{Tree}
use Rattle.fp_base.proofs.Named.{cmp-same}
use Rattle.fp_base.proofs.Sorted.{sorted-put, turned}
use Rattle.fp_imports.specs.Places.{IsPlaceOf}

-- one member stands in a place
pub same-place : (ms : List Entry) (at : ℕ) (m n : Entry) → at < length ms → m ≡ get_or ms at m → n ≡ get_or ms at n → m ≡ n
same-place ms at m n h p q = p ∙ get_or_default ms at m n h ∙ sym q

below-there : (k : List ℕ) (ms : List Entry) (at : ℕ) (m : Entry) → at < length ms → m ≡ get_or ms at m →
    IsBelow k (tree_members ms) → slice_cmp nat_cmp k m.0.now ≡ Less
below-there k [] at m h p b = absurd (omega arith)
below-there k (x ∷ ms) zero m h p b = ap (λ (y : Entry). slice_cmp nat_cmp k y.0.now) p ∙ b.0
below-there k (x ∷ ms) (suc at) m h p b = below-there k ms at m (omega arith) p b.1

put-there : (name : List ℕ) (ms : List Entry) (at : ℕ) (m : Entry) (t : Tree) → at < length ms → m ≡ get_or ms at m →
    m.0.now ≡ name → IsSorted (tree_members ms)
    → tree_members (set ms at (m.0, t)) ≡ put name (tree_view t) (tree_members ms)
put-there name [] at m t h p named s = absurd (omega arith)
put-there name (x ∷ ms) zero m t h p named s =
    let d = tree_view t in
    let e = tree_view x.1 in
    let es = tree_members ms in
    let same : x.0.now ≡ name = ap (λ (y : Entry). y.0.now) (sym p) ∙ named in
    ap (λ k. member k d es) (named ∙ sym same)
    ∙ sym (ap (λ o. match_ordering o (member name d (member x.0.now e es)) (member x.0.now d es)
    (member x.0.now e (put name d es))) (cmp-same name x.0.now (sym same)))
put-there name (x ∷ ms) (suc at) m t h p named s =
    let d = tree_view t in
    let e = tree_view x.1 in
    let es = tree_members ms in
    let after : slice_cmp nat_cmp name x.0.now ≡ Greater =
    turned x.0.now name Less (ap (slice_cmp nat_cmp x.0.now) (sym named) ∙
    below-there x.0.now ms at m (omega arith) p s.0) in
    ap (member x.0.now e) (put-there name ms at m t (omega arith) p named s.1)
    ∙ sym (ap (λ o. match_ordering o (member name d (member x.0.now e es)) (member x.0.now d es) (member x.0.now e (put name d es))) after)

module _ {name : List ℕ} {ms : List Entry} {at : ℕ} (place : IsPlaceOf name ms at)
    (sorted : IsSorted (tree_members ms)) (m : Entry) (is : m ≡ get_or ms at m) where
  -- another value in its place is put at the name
  pub put-at : (t : Tree) → tree_members (set ms at (m.0, t)) ≡ put name (tree_view t) (tree_members ms)
  put-at t = put-there name ms at m t place.within is (place.named m is) sorted

  -- and what stands there is put there already
  pub put-same : put name (tree_view m.1) (tree_members ms) ≡ tree_members ms
  put-same = sym (put-at m.1) ∙ ap (λ y. tree_members (set ms at y)) is ∙ ap tree_members (set-get_or ms at m)

  pub found-at : get_member name (tree_members ms) ≡ Some (tree_view m.1)
  found-at = ap (get_member name) (sym put-same) ∙ get_member-put name (tree_view m.1) (tree_members ms)

-- ---- what is put among ordered members

match-ordered : (o : Ordering) (a b c : Members) → MembersAreOrdered a → MembersAreOrdered b → MembersAreOrdered c →
    MembersAreOrdered (match_ordering o a b c)
match-ordered Less a b c p q r = p
match-ordered Equal a b c p q r = q
match-ordered Greater a b c p q r = r

members-put : (k : List ℕ) (d : Data) (ms : Members) → IsOrdered d → MembersAreOrdered ms → MembersAreOrdered (put k d ms)
members-put k d no_members h p = (h, tt)
members-put k d (member l e ms) h p =
    match-ordered (slice_cmp nat_cmp k l) (member k d (member l e ms)) (member l d ms) (member l e (put k d ms))
    (h, p) (h, p.1) (p.0, members-put k d ms h p.1)

pub ordered-put : (k : List ℕ) (d : Data) (ms : Members) → IsOrdered d → IsOrdered (object ms) → IsOrdered (object (put k d ms))
ordered-put k d ms h p = (sorted-put k d ms p.0, members-put k d ms h p.1)
