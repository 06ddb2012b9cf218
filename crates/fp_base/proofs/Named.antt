-- Members looked up by their names.
use Rattle.std.proofs.Common.{◌≡◌, ℕ, List, true, false, Option, Some, Ordering, Less, Equal, Greater, nat_cmp}
use Rattle.std.proofs.Common.{bytes_eq, true≢false, refl, sym, ap, ◌∙◌}
use Rattle.std.specs.Ordering.{is_eq, match_ordering}
use Rattle.std.specs.Cmp.{Equal-is}
use Rattle.std.specs.Cmp.Lexicographic.{slice_cmp}
use Rattle.std.proofs.lemmas.Map.Text.{is_eq-slice_cmp}
use Rattle.std.proofs.lemmas.Slice.Eq.{bytes_eq-Decides}
use Rattle.serde_json.specs.Data.{Data, Members, member}
use Rattle.serde_json.specs.Find.{get_member}

abbrev cmp : List ℕ → List ℕ → Ordering
cmp = slice_cmp nat_cmp

-- one of another name is passed over
pub later-by : (o : Ordering) (rest : Option Data) (d : Data) → (o ≡ Equal → ⊥) → match_ordering o rest (Some d) rest ≡ rest
later-by Less rest d h = refl
later-by Equal rest d h = absurd (h refl)
later-by Greater rest d h = refl

-- names that are the same text are equal in their order, and no others are
pub cmp-same : (name k : List ℕ) → name ≡ k → cmp name k ≡ Equal
cmp-same name k same = (Equal-is (cmp name k)).0 (is_eq-slice_cmp name k ∙ (bytes_eq-Decides name k).1 same)

pub same-cmp : (name k : List ℕ) → cmp name k ≡ Equal → name ≡ k
same-cmp name k h = (bytes_eq-Decides name k).0 (sym (is_eq-slice_cmp name k) ∙ ap is_eq h)

-- the first member has the name
pub found-here : (name k : List ℕ) (d : Data) (ms : Members) → bytes_eq k name ≡ true → get_member name (member k d ms) ≡ Some d
found-here name k d ms h = ap (λ o. match_ordering o (get_member name ms) (Some d) (get_member name ms))
    (cmp-same name k (sym ((bytes_eq-Decides k name).0 h)))

-- the first member has another name
pub found-later : (name k : List ℕ) (d : Data) (ms : Members) → bytes_eq k name ≡ false →
    get_member name (member k d ms) ≡ get_member name ms
found-later name k d ms h =
    later-by (cmp name k) (get_member name ms) d (λ e. true≢false (sym ((bytes_eq-Decides k name).1 (sym (same-cmp name k e))) ∙ h))
