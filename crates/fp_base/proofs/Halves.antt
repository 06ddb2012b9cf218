-- A name's place among members in ascending order of their names.
use Rattle.std.proofs.Common.{◌≡◌, ◌<◌, ℕ, zero, suc, List, [], ◌∷◌, ◌++◌, length, drop, true, false, None, Ordering}
use Rattle.std.proofs.Common.{Less, Equal, Greater, nat_cmp, bytes_eq, true≢false, refl, sym, ap, ◌∙◌, arith}
use Rattle.std.specs.Ordering.{is_lt, match_ordering}
use Rattle.std.specs.Cmp.Lexicographic.{slice_cmp}
use Rattle.std.proofs.lemmas.Cmp.{nat_list_cmp_total}
use Rattle.std.proofs.lemmas.Slice.Eq.{bytes_eq-Decides}
use Rattle.serde_json.specs.Data.{Data, Members, no_members, member, put}
use Rattle.serde_json.specs.Find.{get_member}
use Rattle.fp_base.specs.Places.{AreBefore, IsNotBefore, first_is_named}
use Rattle.fp_base.specs.Sorted.{IsBelow, IsSorted}
use Rattle.fp_base.specs.TreeView.{Entry, tree_view, tree_members}
use Rattle.fp_base.specs.declared.tree.Tree.{Tree}
use Rattle.fp_base.proofs.Entries.{below-middle}
use Rattle.fp_base.proofs.Named.{cmp-same, later-by, same-cmp}
use Rattle.fp_base.proofs.Sorted.{below-trans, turned}

abbrev cmp : List ℕ → List ℕ → Ordering
cmp = slice_cmp nat_cmp

pub less : (o : Ordering) → is_lt o ≡ true → o ≡ Less
less Less h = refl
less Equal h = absurd (true≢false (sym h))
less Greater h = absurd (true≢false (sym h))

-- where one comes before the name, so do all in front of it
pub before-up_to : (name : List ℕ) (front : List Entry) (m : Entry) (behind : List Entry) →
    IsSorted (tree_members (front ++ m ∷ behind)) → cmp m.0.now name ≡ Less
    → AreBefore name (front ++ m ∷ [])
before-up_to name [] m behind h less = (less, tt)
before-up_to name (x ∷ front) m behind h less = (
  nat_list_cmp_total.trans x.0.now m.0.now name (below-middle x.0.now front m behind h.0) less,
  before-up_to name front m behind h.1 less,
)

pub sorted-behind : (front behind : List Entry) → IsSorted (tree_members (front ++ behind)) → IsSorted (tree_members behind)
sorted-behind [] behind h = h
sorted-behind (x ∷ front) behind h = sorted-behind front behind h.1

-- a place at which there is a name
pub named-within : (name : List ℕ) (ms : List Entry) (at : ℕ) → first_is_named name (drop at ms) ≡ true → at < length ms
named-within name [] zero h = absurd (true≢false (sym h))
named-within name [] (suc at) h = absurd (true≢false (sym h))
named-within name (m ∷ ms) zero h = omega arith
named-within name (m ∷ ms) (suc at) h = let rest = named-within name ms at h in omega arith

-- ---- looked up

apart : {o : Ordering} → o ≡ Greater → o ≡ Equal → ⊥
apart p q = cc

apart-less : {o : Ordering} → o ≡ Less → o ≡ Equal → ⊥
apart-less p q = cc

-- what is looked up isn't in front
pub get-behind : (name : List ℕ) (front behind : List Entry) → AreBefore name front →
    get_member name (tree_members (front ++ behind)) ≡ get_member name (tree_members behind)
get-behind name [] behind h = refl
get-behind name (x ∷ front) behind h =
    later-by (cmp name x.0.now) (get_member name (tree_members (front ++ behind))) (tree_view x.1)
    (apart (turned x.0.now name Less h.0)) ∙ get-behind name front behind h.1

none-below : (name : List ℕ) (ms : Members) → IsBelow name ms → get_member name ms ≡ None
none-below name no_members h = refl
none-below name (member k d ms) h = later-by (cmp name k) (get_member name ms) d (apart-less h.0) ∙ none-below name ms h.1

-- the name comes before one that doesn't come before it and isn't it
comes-before : (name k : List ℕ) (o : Ordering) → cmp k name ≡ o → (o ≡ Less → ⊥) → bytes_eq k name ≡ false → cmp name k ≡ Less
comes-before name k Less e not_less other = absurd (not_less refl)
comes-before name k Equal e not_less other = absurd (true≢false (sym ((bytes_eq-Decides k name).1 (same-cmp k name e)) ∙ other))
comes-before name k Greater e not_less other = turned k name Greater e

-- the first that doesn't come before it has another name, so none has its name
pub get-none : (name : List ℕ) (behind : List Entry) → IsSorted (tree_members behind) → IsNotBefore name behind →
    first_is_named name behind ≡ false
    → get_member name (tree_members behind) ≡ None
get-none name [] h p other = refl
get-none name (m ∷ behind) h p other =
    let first : cmp name m.0.now ≡ Less = comes-before name m.0.now (cmp m.0.now name) refl p other in
    none-below name (tree_members (m ∷ behind)) (first, below-trans name m.0.now (tree_members behind) first h.0)

-- ---- put

put-by : (k l : List ℕ) (d e : Data) (ms : Members) (o : Ordering) → cmp k l ≡ o
    → put k d (member l e ms) ≡ match_ordering o (member k d (member l e ms)) (member l d ms) (member l e (put k d ms))
put-by k l d e ms o h = ap (λ p. match_ordering p (member k d (member l e ms)) (member l d ms) (member l e (put k d ms))) h

-- what is put goes behind those that come before it
pub put-behind : (name : List ℕ) (d : Data) (front behind new : List Entry) → AreBefore name front →
    put name d (tree_members behind) ≡ tree_members new
    → put name d (tree_members (front ++ behind)) ≡ tree_members (front ++ new)
put-behind name d [] behind new h is = is
put-behind name d (x ∷ front) behind new h is =
    put-by name x.0.now d (tree_view x.1) (tree_members (front ++ behind)) Greater (turned x.0.now name Less h.0)
    ∙ ap (member x.0.now (tree_view x.1)) (put-behind name d front behind new h.1 is)

-- in the place of the one of its name
pub put-there : (m : Entry) (t : Tree) (name : List ℕ) (behind : List Entry) → m.0.now ≡ name →
    put name (tree_view t) (tree_members (m ∷ behind)) ≡ tree_members ((m.0, t) ∷ behind)
put-there m t name behind same =
    put-by name m.0.now (tree_view t) (tree_view m.1) (tree_members behind) Equal (cmp-same name m.0.now (sym same))

-- in front of the first that comes behind it
pub put-first : (m : Entry) (behind : List Entry) → IsNotBefore m.0.now behind → first_is_named m.0.now behind ≡ false
    → put m.0.now (tree_view m.1) (tree_members behind) ≡ tree_members (m ∷ behind)
put-first m [] p other = refl
put-first m (n ∷ behind) p other =
    put-by m.0.now n.0.now (tree_view m.1) (tree_view n.1) (tree_members behind) Less
    (comes-before m.0.now n.0.now (cmp n.0.now m.0.now) refl p other)
