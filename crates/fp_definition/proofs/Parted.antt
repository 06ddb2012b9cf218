-- Variants in ascending order of their names, parted in two: in which part a name is looked up.
use Rattle.std.proofs.Common.{◌≡◌, ℕ, List, [], ◌∷◌, ◌++◌, true, false, true≢false, Some, None, Ordering, Less, Equal}
use Rattle.std.proofs.Common.{Greater, nat_cmp, refl, sym, ap, subst, ◌∙◌}
use Rattle.std.specs.Ordering.{is_gt, match_ordering}
use Rattle.std.specs.Cmp.Lexicographic.{slice_cmp}
use Rattle.std.proofs.lemmas.Cmp.{nat_list_cmp_total}
use Rattle.serde_json.specs.Data.{Members, no_members, member, string}
use Rattle.serde_json.specs.Find.{get_member}
use Rattle.fp_base.specs.Sorted.{IsBelow, IsSorted}
use Rattle.fp_definition.specs.Spelled.{at, spelled, AreWithin}
use Rattle.fp_definition.specs.declared.spelling.Variant.{Variant}
use Rattle.fp_base.proofs.Named.{later-by, same-cmp}
use Rattle.fp_base.proofs.Sorted.{below-trans, turned}

abbrev cmp : List ℕ → List ℕ → Ordering
cmp = slice_cmp nat_cmp

abbrev name_of : Variant → List ℕ
name_of e = e.name.bytes

pub greater : (o : Ordering) → is_gt o ≡ true → o ≡ Greater
greater Less h = absurd (true≢false (sym h))
greater Equal h = absurd (true≢false (sym h))
greater Greater h = refl

pub not_greater : (o : Ordering) → is_gt o ≡ false → o ≡ Greater → ⊥
not_greater Less h e = cc
not_greater Equal h e = cc
not_greater Greater h e = true≢false h

apart : {o : Ordering} → o ≡ Greater → o ≡ Equal → ⊥
apart p q = cc

apart-less : {o : Ordering} → o ≡ Less → o ≡ Equal → ⊥
apart-less p q = cc

-- what comes before a name comes before one that the name doesn't come behind
before : (k l name : List ℕ) (o : Ordering) → cmp k l ≡ Less → cmp l name ≡ o → (o ≡ Greater → ⊥) → cmp k name ≡ Less
before k l name Less h e other = nat_list_cmp_total.trans k l name h e
before k l name Equal h e other = subst (λ n. cmp k n ≡ Less) (same-cmp l name e) h
before k l name Greater h e other = absurd (other refl)

none-below : (name : List ℕ) (ms : Members) → IsBelow name ms → get_member name ms ≡ None
none-below name no_members h = refl
none-below name (member k d ms) h = later-by (cmp name k) (get_member name ms) d (apart-less h.0) ∙ none-below name ms h.1

module _ (text : List ℕ) where
  below-middle : (k : List ℕ) (front : List Variant) (m : Variant) (behind : List Variant) →
      IsBelow k (spelled text (front ++ m ∷ behind) no_members) → cmp k (name_of m) ≡ Less
  below-middle k [] m behind h = h.0
  below-middle k (x ∷ front) m behind h = below-middle k front m behind h.1

  below-front : (k : List ℕ) (front behind : List Variant) → IsBelow k (spelled text (front ++ behind) no_members) →
      IsBelow k (spelled text front no_members)
  below-front k [] behind h = tt
  below-front k (x ∷ front) behind h = (h.0, below-front k front behind h.1)

  -- each part is in order too
  pub sorted-front : (front behind : List Variant) → IsSorted (spelled text (front ++ behind) no_members) →
      IsSorted (spelled text front no_members)
  sorted-front [] behind h = tt
  sorted-front (x ∷ front) behind h = (below-front (name_of x) front behind h.0, sorted-front front behind h.1)

  pub sorted-behind : (front behind : List Variant) → IsSorted (spelled text (front ++ behind) no_members) →
      IsSorted (spelled text behind no_members)
  sorted-behind [] behind h = h
  sorted-behind (x ∷ front) behind h = sorted-behind front behind h.1

  -- a name that doesn't come before the first of those behind isn't in front
  pub get-behind : (name : List ℕ) (front : List Variant) (m : Variant) (behind : List Variant) →
      IsSorted (spelled text (front ++ m ∷ behind) no_members) → (cmp (name_of m) name ≡ Greater → ⊥)
      → get_member name (spelled text (m ∷ behind) no_members) ≡ get_member name (spelled text (front ++ m ∷ behind) no_members)
  get-behind name [] m behind h other = refl
  get-behind name (x ∷ front) m behind h other =
      let less : cmp (name_of x) name ≡ Less =
      before (name_of x) (name_of m) name (cmp (name_of m) name) (below-middle (name_of x) front m behind h.0)
      refl other in
      get-behind name front m behind h.1 other
      ∙ sym (later-by (cmp name (name_of x)) (get_member name (spelled text (front ++ m ∷ behind) no_members))
      (string (at text x.value)) (apart (turned (name_of x) name Less less)))

  -- a name that comes before the first of those behind isn't behind
  pub get-front : (name : List ℕ) (front : List Variant) (m : Variant) (behind : List Variant) →
      IsSorted (spelled text (front ++ m ∷ behind) no_members) → cmp (name_of m) name ≡ Greater
      → get_member name (spelled text front no_members) ≡ get_member name (spelled text (front ++ m ∷ behind) no_members)
  get-front name [] m behind h more =
      let less : cmp name (name_of m) ≡ Less = turned (name_of m) name Greater more in
      sym (none-below name (spelled text (m ∷ behind) no_members)
      (less, below-trans name (name_of m) (spelled text behind no_members) less h.0))
  get-front name (x ∷ front) m behind h more =
      ap (λ r. match_ordering (cmp name (name_of x)) r (Some (string (at text x.value))) r) (get-front name front m behind h.1 more)

  -- and each part is in the text
  pub within-front : (front behind : List Variant) → AreWithin text (front ++ behind) → AreWithin text front
  within-front [] behind h = tt
  within-front (x ∷ front) behind h = (h.0, within-front front behind h.1)

  pub within-behind : (front behind : List Variant) → AreWithin text (front ++ behind) → AreWithin text behind
  within-behind [] behind h = h
  within-behind (x ∷ front) behind h = within-behind front behind h.1
