-- Definitions that are read beside another.
use Rattle.std.proofs.Common.{◌≡◌, ℕ, List, [], ◌∷◌, ◌++◌, Bool, true, false, Option, None, Some, codes}
use Rattle.std.proofs.Common.{Less, nat_cmp, refl, sym, ap, ap₂, subst, ◌∙◌, true≢false, inl, inr}
use Rattle.std.proofs.lemmas.Slice.Eq.{bytes_eq-Decides}
use Rattle.std.specs.Prelude.{if◌then◌else◌, IsSome}
use Rattle.std.specs.Borrow.{Bor}
use Rattle.std.specs.Str.{bytes_eq}
use Rattle.std.specs.Cmp.Lexicographic.{slice_cmp}
use Rattle.serde_json.specs.Data.{Data, object, Members, no_members, member}
use Rattle.serde_json.specs.Find.{get, get_member}
use Rattle.fp_base.specs.Places.{AreBefore}
use Rattle.fp_base.specs.Sorted.{IsBelow, IsSorted}
use Rattle.fp_base.specs.TreeView.{Entry, tree_view, tree_members}
use Rattle.fp_base.proofs.Named.{cmp-same, found-here, found-later}
use Rattle.fp_definition.specs.Beside.{AreAlike, HasTargeting, in_place, IsOn, IsTold, members_with, object_with}
use Rattle.fp_definition.specs.Beside.{targeting_beside, targeting_in}

-- ---- members, with one of them in place of another

pub with-more : (t : Option Data) (ms : List Entry) (m : Entry) (rest : Members) →
    members_with t (ms ++ m ∷ []) rest ≡ members_with t ms (member m.0.now (in_place t m.0.now (tree_view m.1)) rest)
with-more t [] m rest = refl
with-more t (n ∷ ms) m rest = ap (member n.0.now (in_place t n.0.now (tree_view n.1))) (with-more t ms m rest)

pub with-none : (ms : List Entry) → members_with None ms no_members ≡ tree_members ms
with-none [] = refl
with-none (m ∷ ms) = ap (member m.0.now (tree_view m.1)) (with-none ms)

pub in_place-other : (t : Option Data) (name : List ℕ) (d : Data) → bytes_eq name (codes "targeting") ≡ false → in_place t name d ≡ d
in_place-other None name d h = refl
in_place-other (Some t) name d h = ap (λ (b : Bool). if b then t else d) h

pub in_place-it : (t : Option Data) (u : Data) (name : List ℕ) (d : Data) → t ≡ Some u → bytes_eq name (codes "targeting") ≡ true →
    in_place t name d ≡ u
in_place-it t u name d is h = ap (λ o. in_place o name d) is ∙ ap (λ (b : Bool). if b then u else d) h

-- ---- names in their order

apart : (k l : List ℕ) → slice_cmp nat_cmp k l ≡ Less → k ≡ l → ⊥
apart k l less same = let equal = cmp-same k l same in cc

differ : (b : Bool) → (b ≡ true → ⊥) → b ≡ false
differ true h = absurd (h refl)
differ false h = refl

-- one that stands before `targeting` is another, and so is one that stands behind it
before_it : (k l : List ℕ) → slice_cmp nat_cmp k l ≡ Less → bytes_eq l (codes "targeting") ≡ true → bytes_eq k (codes "targeting") ≡ false
before_it k l less is = differ _ (λ e. apart k l less
    ((bytes_eq-Decides k (codes "targeting")).0 e ∙ sym ((bytes_eq-Decides l (codes "targeting")).0 is)))

behind_it : (ms : List Entry) (k : List ℕ) → HasTargeting ms → AreBefore k ms → bytes_eq k (codes "targeting") ≡ false
behind_it [] k has before = absurd has
behind_it (m ∷ ms) k (inl is) before = differ _ (λ e. apart m.0.now k before.0
    ((bytes_eq-Decides m.0.now (codes "targeting")).0 is ∙ sym ((bytes_eq-Decides k (codes "targeting")).0 e)))
behind_it (m ∷ ms) k (inr has) before = behind_it ms k has before.1

has_more : (ms : List Entry) (m : Entry) → HasTargeting ms → HasTargeting (ms ++ m ∷ [])
has_more [] m h = absurd h
has_more (n ∷ ms) m (inl h) = inl h
has_more (n ∷ ms) m (inr h) = inr (has_more ms m h)

has_last : (ms : List Entry) (m : Entry) → bytes_eq m.0.now (codes "targeting") ≡ true → HasTargeting (ms ++ m ∷ [])
has_last [] m h = inl h
has_last (n ∷ ms) m h = inr (has_last ms m h)

-- in front of `targeting` nothing is another's
with_before : (t u : Option Data) (ms : List Entry) (k : List ℕ) (more : Members) → AreBefore k ms →
    bytes_eq k (codes "targeting") ≡ true → members_with t ms more ≡ members_with u ms more
with_before t u [] k more before is = refl
with_before t u (m ∷ ms) k more before is =
    let other = before_it m.0.now k before.0 is in
    ap₂ (member m.0.now) (in_place-other t m.0.now (tree_view m.1) other ∙ sym (in_place-other u m.0.now (tree_view m.1) other))
    (with_before t u ms k more before.1 is)

-- ---- beside another, so far

pub told_first : (o : Option (Bor (List ℕ))) (ms : List Entry) (k : List ℕ) → IsTold o ms → AreBefore k ms → IsSome o →
    bytes_eq k (codes "targeting") ≡ false
told_first o ms k (inl none) before some = absurd (true≢false (sym (subst IsSome none some)))
told_first o ms k (inr h) before some = behind_it ms k h.1 before

pub told_on : (old new : Option (Bor (List ℕ))) (ms : List Entry) (m : Entry) (all : List Entry) → all ≡ ms ++ m ∷ [] →
    IsTold old ms → IsOn old new m.0.now → IsTold new all
told_on old new ms m all pushed (inl none) (inl same) = inl (same ∙ none)
told_on old new ms m all pushed (inr h) (inl same) =
    inr (subst (λ o. IsSome (targeting_in o)) (sym same) h.0, subst HasTargeting (sym pushed) (has_more ms m h.1))
told_on old new ms m all pushed told (inr on) = inr (on.1, subst HasTargeting (sym pushed) (has_last ms m on.0))

-- what is in front stays
pub front_on : (old new : Option (Bor (List ℕ))) (ms : List Entry) (k : List ℕ) (more : Members) → AreBefore k ms → IsOn old new k →
    members_with (targeting_in new) ms more ≡ members_with (targeting_in old) ms more
front_on old new ms k more before (inl same) = ap (λ o. members_with (targeting_in o) ms more) same
front_on old new ms k more before (inr on) = with_before (targeting_in new) (targeting_in old) ms k more before on.0

-- ---- all members

module _ (t : Option Data) where
  below_with : (k : List ℕ) (ms : List Entry) → IsBelow k (tree_members ms) → IsBelow k (members_with t ms no_members)
  below_with k [] h = tt
  below_with k (m ∷ ms) h = (h.0, below_with k ms h.1)

  pub sorted_with : (ms : List Entry) → IsSorted (tree_members ms) → IsSorted (members_with t ms no_members)
  sorted_with [] h = tt
  sorted_with (m ∷ ms) h = (below_with m.0.now ms h.0, sorted_with ms h.1)

  others : (name : List ℕ) → bytes_eq name (codes "targeting") ≡ false → (ms : List Entry) →
      get_member name (tree_members ms) ≡ get_member name (members_with t ms no_members)
  others name other [] = refl
  others name other (m ∷ ms) = by (others name other ms) (bytes_eq m.0.now name) refl
    where
      d : Data
      d = tree_view m.1

      by : get_member name (tree_members ms) ≡ get_member name (members_with t ms no_members) → (b : Bool) → bytes_eq m.0.now name ≡ b →
          get_member name (tree_members (m ∷ ms)) ≡ get_member name (members_with t (m ∷ ms) no_members)
      by behind true is =
          found-here name m.0.now d (tree_members ms) is
          ∙ ap Some (sym (in_place-other t m.0.now d
          (ap (λ n. bytes_eq n (codes "targeting")) ((bytes_eq-Decides m.0.now name).0 is) ∙ other)))
          ∙ sym (found-here name m.0.now (in_place t m.0.now d) (members_with t ms no_members) is)
      by behind false is =
          found-later name m.0.now d (tree_members ms) is ∙ behind
          ∙ sym (found-later name m.0.now (in_place t m.0.now d) (members_with t ms no_members) is)

  pub with_alike : (ms : List Entry) → AreAlike (object (tree_members ms)) (object (members_with t ms no_members))
  with_alike ms = record { objects = refl; members = λ name other. others name other ms }

-- the other's `targeting` is found
pub found_with : (u : Data) (ms : List Entry) → HasTargeting ms →
    get_member (codes "targeting") (members_with (Some u) ms no_members) ≡ Some u
found_with u [] h = absurd h
found_with u (m ∷ ms) h = by (found_with u ms) (bytes_eq m.0.now (codes "targeting")) refl h
  where
    d : Data
    d = tree_view m.1

    rest : Members
    rest = members_with (Some u) ms no_members

    by : (HasTargeting ms → get_member (codes "targeting") rest ≡ Some u) → (b : Bool) → bytes_eq m.0.now (codes "targeting") ≡ b →
        HasTargeting (m ∷ ms) → get_member (codes "targeting") (members_with (Some u) (m ∷ ms) no_members) ≡ Some u
    by behind true is h =
        found-here (codes "targeting") m.0.now (in_place (Some u) m.0.now d) rest is
        ∙ ap Some (in_place-it (Some u) u m.0.now d refl is)
    by behind false is (inl not) = absurd (true≢false (sym not ∙ is))
    by behind false is (inr h) = found-later (codes "targeting") m.0.now (in_place (Some u) m.0.now d) rest is ∙ behind h

-- and taken
pub beside_is : (o : Option (Bor (List ℕ))) (ms : List Entry) (d : Data) → d ≡ object (tree_members ms) → IsTold o ms →
    targeting_beside o d ≡ get (codes "targeting") (object_with o ms)
beside_is None ms d is told = ap (get (codes "targeting")) (is ∙ ap object (sym (with-none ms)))
beside_is (Some o) ms d is (inl none) = absurd (cc)
beside_is (Some o) ms d is (inr h) = by (targeting_in (Some o)) refl h.0
  where
    by : (t : Option Data) → targeting_in (Some o) ≡ t → IsSome t →
        targeting_in (Some o) ≡ get_member (codes "targeting") (members_with (targeting_in (Some o)) ms no_members)
    by (Some u) e some = e ∙ sym (ap (λ t. get_member (codes "targeting") (members_with t ms no_members)) e ∙ found_with u ms h.1)
    by None e some = absurd (true≢false (sym some))
