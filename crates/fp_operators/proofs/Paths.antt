-- Paths, a part at a time, and what a part names.
use Rattle.std.proofs.Common.{◌≡◌, ◌≢◌, ℕ, zero, suc, ◌<◌, ◌≤◌, List, [], ◌∷◌, ◌++◌, length, get_or, String, Global}
use Rattle.std.proofs.Common.{Option, Some, None, option_map, option_and_then, is_eq, Ordering, Less, Equal, Greater}
use Rattle.std.proofs.Common.{cond, Bor, refl, sym, ap, arith, ne_eqb, ◌==◌, Bool, ◌∙◌, true, false, if◌then◌else◌}
use Rattle.std.specs.Ordering.{nat_cmp}
use Rattle.std.specs.Cmp.Lexicographic.{slice_cmp}
use Rattle.std.specs.Slice.{IsItemAt}
use Rattle.std.specs.Map.{lookup, keys_of}
use Rattle.std.specs.List.Sorted.{IsStrictlySortedBy}
use Rattle.std.specs.String.{string_cmp}
use Rattle.std.proofs.lemmas.Cmp.{nat_list_cmp_total}
use Rattle.std.specs.List.{All}
use Rattle.std.proofs.lemmas.List.Splits.{slice_split_at, slice_split_none}
use Rattle.std.proofs.lemmas.List.Elements.{All-from_get_or}
use Rattle.std.proofs.lemmas.Map.Text.{is_eq-slice_cmp}
use Rattle.std.specs.BTreeMap.{is_at}
use Rattle.std.proofs.Common.{string_bytes}
use Rattle.fp_operators.specs.Data.{Data}
use Rattle.fp_operators.specs.View.{view, items_view, members_view}
use Rattle.fp_operators.specs.declared.datum.Datum.{Datum}
use Rattle.fp_operators.specs.Path.{parts, item_at, member_at}

-- parts
abbrev pub Lacks : ℕ → List ℕ → Type 0
Lacks c xs = (i : ℕ) → i < length xs → get_or xs i 0 ≢ c

no_dots : (xs : List ℕ) → Lacks 46 xs → All (λ b. b == 46 ≡ false) xs
no_dots xs h = All-from_get_or (λ b. b == 46 ≡ false) xs 0 (λ i less. ne_eqb (get_or xs i 0) 46 (h i less))

pub parts_cut : (xs rest : List ℕ) → Lacks 46 xs → parts (xs ++ 46 ∷ rest) ≡ xs ∷ parts rest
parts_cut xs rest h = slice_split_at (λ b. b == 46) xs 46 rest (no_dots xs h) refl

pub parts_last : (xs : List ℕ) → Lacks 46 xs → parts xs ≡ xs ∷ []
parts_last xs h = slice_split_none (λ b. b == 46) xs (no_dots xs h)

pub and_then-Some : (o : Option Data) → option_and_then (λ d. Some d) o ≡ o
and_then-Some None = refl
and_then-Some (Some d) = refl

-- a list's places
item_within : (vs : List Datum) (i : ℕ) (d : Datum) → i < length vs → Some (view (get_or vs i d)) ≡ item_at i (items_view vs)
item_within [] i d h = absurd (omega arith)
item_within (v ∷ vs) zero d h = refl
item_within (v ∷ vs) (suc i) d h = item_within vs i d (omega arith)

item_past : (vs : List Datum) (i : ℕ) → length vs ≤ i → None ≡ item_at i (items_view vs)
item_past [] i h = refl
item_past (v ∷ vs) zero h = absurd (omega arith)
item_past (v ∷ vs) (suc i) h = item_past vs i (omega arith)

-- what `get` returns
pub item_found : (vs : List Datum) (i : ℕ) (r : Option (Bor Datum)) → IsItemAt vs i r →
    option_map (λ d. view d.now) r ≡ item_at i (items_view vs)
item_found vs i None h = item_past vs i h.3
item_found vs i (Some x) h = ap (λ v. Some (view v)) h.1 ∙ item_within vs i x.now h.3.0

-- an object's members
found_at : (b : Bool) (v : Datum) (rest : Option Datum) (d : Option Data) → option_map view rest ≡ d →
    option_map view (cond b (Some v) rest) ≡ (if b then Some (view v) else d)
found_at true v rest d e = refl
found_at false v rest d e = e

pub view-lookup : (name : List ℕ) (es : List (String Global × Datum)) →
    option_map view (lookup (is_at (λ k. slice_cmp nat_cmp name (string_bytes k))) es) ≡ member_at name
    (members_view es)
view-lookup name [] = refl
view-lookup name (e ∷ es) =
    found_at (is_eq (slice_cmp nat_cmp name (string_bytes e.0))) e.1
    (lookup (is_at (λ k. slice_cmp nat_cmp name (string_bytes k))) es) (member_at name (members_view es))
    (view-lookup name es)
    ∙ ap (λ b. if b then Some (view e.1) else member_at name (members_view es)) (is_eq-slice_cmp name (string_bytes e.0))

pub is_eq-not : (o : Ordering) → o ≢ Equal → is_eq o ≡ false
is_eq-not Less h = refl
is_eq-not Equal h = absurd (h refl)
is_eq-not Greater h = refl

-- a name that comes before the first of ascending members is none of theirs
pub member_at-before : (name : List ℕ) (e : String Global × Datum) (es : List (String Global × Datum)) →
    IsStrictlySortedBy string_cmp (keys_of (e ∷ es))
    → slice_cmp nat_cmp name (string_bytes e.0) ≡ Less → member_at name (members_view (e ∷ es)) ≡ None
unfolding IsStrictlySortedBy
member_at-before name e [] h before = rw (sym (is_eq-slice_cmp name (string_bytes e.0)), before) refl
member_at-before name e (next ∷ es) h before =
    let further : slice_cmp nat_cmp name (string_bytes next.0) ≡ Less =
    nat_list_cmp_total.trans name (string_bytes e.0) (string_bytes next.0) before h.0.0 in
    rw (sym (is_eq-slice_cmp name (string_bytes e.0)), before) (member_at-before name next es h.1 further)

pub view_of_ref : (r : Option (Bor Datum)) → option_map (λ x. view x.now) r ≡ option_map view (option_map (λ x. x.now) r)
view_of_ref None = refl
view_of_ref (Some x) = refl
