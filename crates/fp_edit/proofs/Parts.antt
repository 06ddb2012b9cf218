-- What several parts make of flags.
use Rattle.std.proofs.Common.{◌≡◌, ◌≢◌, ◌<◌, ◌+◌, ◌||◌, not, ℕ, zero, suc, Bool, true, false, List, [], ◌∷◌, ◌++◌}
use Rattle.std.proofs.Common.{length, map, take, drop, get_or, cond, refl, sym, ap, ◌∙◌, arith}
use Rattle.std.specs.Prelude.{bytes_eq}
use Rattle.std.specs.Ordering.{eq_by_cmp}
use Rattle.std.specs.Cmp.{Equal-is}
use Rattle.std.specs.FinMap as fin
use Rattle.std.proofs.lemmas.Bool.{and_parts, or_parts, or_from, not-true, false_from_ne_true}
use Rattle.std.proofs.lemmas.Bool.Decides.{not_from_Decides}
use Rattle.std.proofs.Math.Bool.{or_assoc}
use Rattle.std.proofs.lemmas.Cmp.{nat_list_cmp_total, tied_itself}
use Rattle.std.proofs.lemmas.List.{map-append, take-append-drop}
use Rattle.std.proofs.lemmas.Map.Lookups.{exact_bytes}
use Rattle.std.proofs.lemmas.Slice.Eq.{bytes_eq-Decides}
use Rattle.fp_base.specs.Bytes.{bytes_cmp}
use Rattle.fp_base.proofs.Turns.{drop-here, take-here}
use Rattle.fp_edit.specs.Admits.{part_after, parts_after}
use Rattle.fp_edit.specs.Changes.{are_distinct, is_among}
use Rattle.fp_edit.specs.Flags.{Flags, cost_found, one_found, size}
use Rattle.fp_edit.specs.Lent.{left_at}
use Rattle.fp_edit.specs.Parts.{Part, put, delete, free, part_key, parts_of, proposed_of}
use Rattle.fp_edit.specs.declared.edit.Change as code
use Rattle.fp_documents.proofs.Sizes.{size-insert, size-remove, count-insert, count-remove}

-- ---- keys
pub same_key : (k : List ℕ) → eq_by_cmp bytes_cmp k k ≡ true
same_key k = (Equal-is (bytes_cmp k k)).1 (tied_itself nat_list_cmp_total k)

pub other_key : (q k : List ℕ) → q ≢ k → eq_by_cmp bytes_cmp q k ≡ false
other_key q k never = false_from_ne_true _ (λ e. never (exact_bytes q k ((Equal-is (bytes_cmp q k)).0 e)))

-- two keys of which the test says that they are others
pub apart : (q k : List ℕ) → bytes_eq q k ≡ false → q ≢ k
apart q k other = not_from_Decides (bytes_eq q k) (bytes_eq-Decides q k) other

unequal : (q k : List ℕ) → q ≢ k → bytes_eq q k ≡ false
unequal q k never = false_from_ne_true _ (λ e. never ((bytes_eq-Decides q k).0 e))

-- ---- one part
pub get-part : (r : ℕ) (m : Flags) (p : Part) (q : List ℕ) →
    fin.get (part_after r m p) q ≡ cond (eq_by_cmp bytes_cmp q (part_key p)) (left_at r p) (fin.get m q)
get-part r m (put k text) q = fin.get-insert nat_list_cmp_total m k (record { definition = text; changed = r }) q
get-part r m (delete k) q = fin.get-remove nat_list_cmp_total m k q

-- another key's flag stays
pub get-other : (r : ℕ) (m : Flags) (p : Part) (q : List ℕ) → q ≢ part_key p → fin.get (part_after r m p) q ≡ fin.get m q
get-other r m p q never = get-part r m p q ∙ ap (λ (b : Bool). cond b (left_at r p) (fin.get m q)) (other_key q (part_key p) never)

pub get-own : (r : ℕ) (m : Flags) (p : Part) (q : List ℕ) → q ≡ part_key p → fin.get (part_after r m p) q ≡ left_at r p
get-own r m p q is = get-part r m p q ∙
    ap (λ (b : Bool). cond b (left_at r p) (fin.get m q)) (ap (eq_by_cmp bytes_cmp q) (sym is) ∙ same_key q)

pub size-part : (r : ℕ) (m : Flags) (p : Part) →
    size (part_after r m p) + cost_found (part_key p) (fin.get m (part_key p)) ≡ size m + cost_found (part_key p)
    (left_at r p)
size-part r m (put k text) = size-insert m k (record { definition = text; changed = r })
size-part r m (delete k) = let all = size-remove m k in omega (arith, all)

pub count-part : (r : ℕ) (m : Flags) (p : Part) →
    fin.len (part_after r m p) + one_found (fin.get m (part_key p)) ≡ fin.len m + one_found (left_at r p)
count-part r m (put k text) = count-insert m k (record { definition = text; changed = r })
count-part r m (delete k) = let all = count-remove m k in omega (arith, all)

-- ---- several
pub parts_after-append : (r : ℕ) (m : Flags) (xs ys : List Part) → parts_after r m (xs ++ ys) ≡ parts_after r (parts_after r m xs) ys
parts_after-append r m [] ys = refl
parts_after-append r m (x ∷ xs) ys = parts_after-append r (part_after r m x) xs ys

-- the flag of a key that none of them has stays
pub get-apart : (r : ℕ) (m : Flags) (ps : List Part) (k : List ℕ) → is_among k (map part_key ps) ≡ false →
    fin.get (parts_after r m ps) k ≡ fin.get m k
get-apart r m [] k none = refl
get-apart r m (p ∷ ps) k none =
    let both = or_parts (bytes_eq k (part_key p)) (is_among k (map part_key ps)) none in
    get-apart r (part_after r m p) ps k both.1 ∙ get-other r m p k (apart k (part_key p) both.0)

-- ---- keys that are all others
pub is_among-append : (k : List ℕ) (ks ls : List (List ℕ)) → is_among k (ks ++ ls) ≡ (is_among k ks || is_among k ls)
is_among-append k [] ls = refl
is_among-append k (x ∷ ks) ls = ap (λ (b : Bool). bytes_eq k x || b) (is_among-append k ks ls) ∙
    sym (or_assoc (bytes_eq k x) (is_among k ks) (is_among k ls))

-- a key behind others is none of them
pub are_distinct-behind : (ks ls : List (List ℕ)) (k : List ℕ) → are_distinct (ks ++ k ∷ ls) ≡ true → is_among k ks ≡ false
are_distinct-behind [] ls k all = refl
are_distinct-behind (x ∷ ks) ls k all =
    let both = and_parts (not (is_among x (ks ++ k ∷ ls))) (are_distinct (ks ++ k ∷ ls)) all in
    let here = or_parts (is_among x ks) (is_among x (k ∷ ls))
    (sym (is_among-append x ks (k ∷ ls)) ∙ not-true (is_among x (ks ++ k ∷ ls)) both.0) in
    let first = or_parts (bytes_eq x k) (is_among x ls) here.1 in
    or_from (bytes_eq k x) (is_among k ks) (unequal k x (λ same. apart x k first.0 (sym same))) (are_distinct-behind ks ls k both.1)

-- ---- the part at a place
module _ (ps : List Part) (i : ℕ) (p : Part) (within : i < length ps) (is : p ≡ get_or ps i p) where
  pub parts_after-more : (r : ℕ) (m : Flags) → parts_after r m (take (i + 1) ps) ≡ part_after r (parts_after r m (take i ps)) p
  parts_after-more r m = ap (parts_after r m) (take-here ps i p within is) ∙ parts_after-append r m (take i ps) (p ∷ [])

  -- its key is none of those before it
  pub is_among-before : are_distinct (map part_key ps) ≡ true → is_among (part_key p) (map part_key (take i ps)) ≡ false
  is_among-before all =
      let split : map part_key ps ≡ map part_key (take i ps) ++ part_key p ∷ map part_key (drop (i + 1) ps) =
      ap (map part_key) (sym (take-append-drop i ps) ∙
      ap (λ (l : List Part). take i ps ++ l) (drop-here ps i p within is)) ∙
      map-append part_key (take i ps) (p ∷ drop (i + 1) ps) in
      are_distinct-behind (map part_key (take i ps)) (map part_key (drop (i + 1) ps)) (part_key p) (ap are_distinct (sym split) ∙ all)

  -- so its flag is the one that was there before all of them
  pub get-before : (r : ℕ) (m : Flags) → are_distinct (map part_key ps) ≡ true →
      fin.get (parts_after r m (take i ps)) (part_key p) ≡ fin.get m (part_key p)
  get-before r m all = get-apart r m (take i ps) (part_key p) (is_among-before all)

  -- a key that isn't its own either is none of those up to it
  pub is_among-more : (k : List ℕ) → is_among k (map part_key (take i ps)) ≡ false → bytes_eq k (part_key p) ≡ false
      → is_among k (map part_key (take (i + 1) ps)) ≡ false
  is_among-more k none other =
      ap (λ (qs : List Part). is_among k (map part_key qs)) (take-here ps i p within is)
      ∙ ap (is_among k) (map-append part_key (take i ps) (p ∷ []))
      ∙ is_among-append k (map part_key (take i ps)) (part_key p ∷ [])
      ∙ or_from (is_among k (map part_key (take i ps))) (is_among k (part_key p ∷ [])) none
      (or_from (bytes_eq k (part_key p)) false other refl)

-- its key has what it left, since no other is of that key
get-left : (r : ℕ) (m : Flags) (ps : List Part) (i : ℕ) (p : Part) → i < length ps → p ≡ get_or ps i p →
    are_distinct (map part_key ps) ≡ true → fin.get (parts_after r m ps) (part_key p) ≡ left_at r p
get-left r m [] i p within is all = absurd (omega (arith, within))
get-left r m (x ∷ ps) zero p within is all =
    let rest = and_parts (not (is_among (part_key x) (map part_key ps))) (are_distinct (map part_key ps)) all in
    rw is (get-apart r (part_after r m x) ps (part_key x) (not-true (is_among (part_key x) (map part_key ps)) rest.0)
    ∙ get-own r m x (part_key x) refl)
get-left r m (x ∷ ps) (suc i) p within is all =
    let rest = and_parts (not (is_among (part_key x) (map part_key ps))) (are_distinct (map part_key ps)) all in
    get-left r (part_after r m x) ps i p (omega (arith, within)) is rest.1

-- what a changed key takes is what the change to it left
pub cost-left : (r : ℕ) (m : Flags) (ps : List Part) (i : ℕ) (p : Part) (k : List ℕ) → i < length ps → p ≡ get_or ps i p →
    are_distinct (map part_key ps) ≡ true → k ≡ part_key p → cost_found k (fin.get (parts_after r m ps) k) ≡ cost_found k (left_at r p)
cost-left r m ps i p k within is all same =
    ap (cost_found k) (ap (fin.get (parts_after r m ps)) same ∙ get-left r m ps i p within is all)

-- ---- the parts of changes
pub parts_of-free : (ps : List Part) → parts_of (map free ps) ≡ ps
parts_of-free [] = refl
parts_of-free (p ∷ ps) = ap (λ (l : List Part). p ∷ l) (parts_of-free ps)

abbrev pub parts_in : List code.Change → List Part
parts_in changes = parts_of (map proposed_of changes)
