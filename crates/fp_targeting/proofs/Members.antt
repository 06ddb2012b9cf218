-- A member that is put where it stands already.
use Rattle.std.proofs.Common.{◌≡◌, ℕ, Bool, true, false, cond, List, [], ◌∷◌, String, Global, Some, Ordering, Less}
use Rattle.std.proofs.Common.{Equal, Greater, string_bytes, nat_cmp, refl, sym, ap, ◌∙◌}
use mathlib.Core.Bool.{true≢false}
use Rattle.std.specs.BTreeMap.{is_at}
use Rattle.std.specs.Cmp.Lexicographic.{slice_cmp}
use Rattle.std.specs.Map.{lookup, set_value}
use Rattle.std.specs.Ordering.{is_eq, match_ordering}
use Rattle.std.proofs.lemmas.Cmp.{nat_list_cmp_total, tied_itself}
use Rattle.fp_operators.specs.Data.{Data, null, Members, no_members, member, put}
use Rattle.fp_operators.specs.View.{view, members_view}
use Rattle.fp_operators.specs.declared.datum.Datum.{Datum}

abbrev Entry : Type 0
Entry = String Global × Datum

-- the parts of the first member
abbrev first_name : Members → List ℕ
first_name no_members = []
first_name (member k d ms) = k

abbrev first_data : Members → Data
first_data no_members = null
first_data (member k d ms) = d

abbrev others : Members → Members
others no_members = no_members
others (member k d ms) = ms

abbrev is_none : Members → Bool
is_none no_members = true
is_none (member k d ms) = false

is_none-put : (n : List ℕ) (d : Data) (ms : Members) → is_none (put n d ms) ≡ false
is_none-put n d no_members = refl
is_none-put n d (member l e ms) =
    elim (slice_cmp nat_cmp n l) as
    (λ o. is_none (match_ordering o (member n d (member l e ms)) (member l d ms) (member l e (put n d ms))) ≡ false)
    [ Less ↦ refl | Equal ↦ refl | Greater ↦ refl ]

module _ (n : List ℕ) where
  abbrev at : String Global → Bool
  at k = is_at (λ s. slice_cmp nat_cmp n (string_bytes s)) k

  at_name : (k : String Global) (l : List ℕ) (o : Ordering) → string_bytes k ≡ l → slice_cmp nat_cmp n l ≡ o → at k ≡ is_eq o
  at_name k l o same p = ap (λ (m : List ℕ). is_eq (slice_cmp nat_cmp n m)) same ∙ ap is_eq p

  -- d stands under n, over ms, and is found there and replaced
  abbrev pub IsPut : List Entry → Data → Members → Type 0
  IsPut es d ms = (x : Datum) × (lookup at es ≡ Some x) × (view x ≡ d) ×
      ((v : Datum) → members_view (set_value at es v) ≡ put n (view v) ms)

  module _ (e : Entry) (es : List Entry) (d : Data) where
    found : (k : List ℕ) (rest ms : Members) → at e.0 ≡ true → members_view (e ∷ es) ≡ member k d rest →
        ((x : Data) → put n x ms ≡ member k x rest) → IsPut (e ∷ es) d ms
    found k rest ms here h puts = (
      e.1,
      ap (λ (b : Bool). cond b (Some e.1) (lookup at es)) here,
      ap first_data h,
      λ v. ap (λ (b : Bool). members_view (cond b ((e.0, v) ∷ es) (e ∷ set_value at es v))) here
          ∙ ap (λ (m : List ℕ). member m (view v) (members_view es)) (ap first_name h)
          ∙ ap (member k (view v)) (ap others h)
          ∙ sym (puts (view v)),
    )

    by_order : (l : List ℕ) (y : Data) (ms : Members) → (members_view es ≡ put n d ms → IsPut es d ms) →
        (o : Ordering) → slice_cmp nat_cmp n l ≡ o
        → members_view (e ∷ es) ≡ match_ordering o (member n d (member l y ms)) (member l d ms)
        (member l y (put n d ms)) → IsPut (e ∷ es) d (member l y ms)
    by_order l y ms later Less p h =
        found n (member l y ms) (member l y ms) (at_name e.0 n Equal (ap first_name h) (tied_itself nat_list_cmp_total n)) h
        (λ x. ap (λ (o : Ordering). match_ordering o (member n x (member l y ms)) (member l x ms) (member l y (put n x ms))) p)
    by_order l y ms later Equal p h =
        found l ms (member l y ms) (at_name e.0 l Equal (ap first_name h) p) h
        (λ x. ap (λ (o : Ordering). match_ordering o (member n x (member l y ms)) (member l x ms) (member l y (put n x ms))) p)
    by_order l y ms later Greater p h =
        let behind = later (ap others h) in
        let missed = at_name e.0 l Greater (ap first_name h) p in (
          behind.0,
          ap (λ (b : Bool). cond b (Some e.1) (lookup at es)) missed ∙ behind.1,
          behind.2,
          λ v. ap (λ (b : Bool). members_view (cond b ((e.0, v) ∷ es) (e ∷ set_value at es v))) missed
              ∙ ap (λ (m : List ℕ). member m (view e.1) (members_view (set_value at es v))) (ap first_name h)
              ∙ ap (λ (x : Data). member l x (members_view (set_value at es v))) (ap first_data h)
              ∙ ap (member l y) (behind.3 v)
              ∙ sym (ap (λ (o : Ordering). match_ordering o (member n (view v) (member l y ms))
              (member l (view v) ms) (member l y (put n (view v) ms))) p),
        )

  pub is_put : (es : List Entry) (d : Data) (ms : Members) → members_view es ≡ put n d ms → IsPut es d ms
  is_put [] d ms h = absurd (true≢false (ap is_none h ∙ is_none-put n d ms))
  is_put (e ∷ es) d no_members h =
      found e es d n no_members no_members (at_name e.0 n Equal (ap first_name h) (tied_itself nat_list_cmp_total n))
      h (λ x. refl)
  is_put (e ∷ es) d (member l y ms) h = by_order e es d l y ms (is_put es d ms) (slice_cmp nat_cmp n l) refl h
