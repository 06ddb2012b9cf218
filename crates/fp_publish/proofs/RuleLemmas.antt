-- What each step on what is published owes to the rule.
use Rattle.std.proofs.Common.{◌≡◌, ℕ, ◌≢◌, List, [], ◌++◌, Option, None, Some, set, refl, sym, ap, subst, ◌∙◌, ⊎_elim, append_assoc}
use Rattle.std.proofs.lemmas.List.{append-nil}
use mathlib.Core.Option.{some}
use mathlib.Core.List.{IsPrefix}
use lib.ListN.{get_elem?}
use Rattle.left_right.specs.Register.{Admits, TurnsAt, Forks, Merges}
use Rattle.atomic_table.proofs.Lists.{at_set, at_snoc}
use Rattle.fp_edit.specs.Edits.{Change}
use Rattle.fp_group_commit.specs.Tokens.{FrontState}
use Rattle.fp_publish.specs.Fronts.{Begins}
use Rattle.fp_publish.specs.Rule.{IsConsistent, IfKnownBegins, KeepsFronts, Sees}
use Rattle.fp_publish.specs.declared.page.Page.{Page}

prefix_on : (xs ys zs : List Change) → IsPrefix xs ys → IsPrefix ys zs → IsPrefix xs zs
prefix_on xs ys zs p q = (p.0 ++ q.0, sym (append_assoc xs p.0 q.0) ∙ ap (λ (l : List Change). l ++ q.0) p.1 ∙ q.1)

pub begins_on : (f g h : FrontState) → Begins f g → Begins g h → Begins f h
begins_on f g h p q = (p.0 ∙ q.0, prefix_on f.edits g.edits h.edits p.1 q.1)

pub begins_self : (f : FrontState) → Begins f f
begins_self f = (refl, ([], append-nil f.edits))

known_on : (known : Option FrontState) (g h : FrontState) → IfKnownBegins known g → Begins g h → IfKnownBegins known h
known_on None g h p q = tt
known_on (Some f) g h p q = begins_on f g h p q

-- a seat more, which knows nothing
pub admits : Admits KeepsFronts None
admits x views h = (
  h.0,
  λ seat known at. ⊎_elim (h.1 seat known)
      (λ (e : None ≡ known). subst (λ (z : Option FrontState). IfKnownBegins z x.front) e tt)
      (at_snoc views None known seat at),
)

-- a seat goes from one published page to one that goes on from it
pub turns : (seat : ℕ) (knew : Option FrontState) (x y : Page) → Begins x.front y.front →
    (IsConsistent x → IsConsistent y) → TurnsAt KeepsFronts seat knew x y Sees
turns seat knew x y up stands views h at = (
  Some y.front,
  (
    stands h.0,
    λ j u e. ⊎_elim (λ (t : (j ≡ seat) × (Some y.front ≡ u)). subst
        (λ (z : Option FrontState). IfKnownBegins z y.front) t.1 (begins_self y.front))
        (λ (t : (j ≢ seat) × (get_elem? views j ≡ some u)). known_on u x.front y.front (h.1 j u t.1) up)
        (at_set views seat j (Some y.front) u e),
  ),
  (h.1 seat knew at, stands h.0, refl),
)

set_begins : (g : FrontState) (views : List (Option FrontState)) (seat : ℕ) (known : Option FrontState) →
    ((j : ℕ) (u : Option FrontState) → get_elem? views j ≡ some u → IfKnownBegins u g) → IfKnownBegins known g
    → (j : ℕ) (u : Option FrontState) → get_elem? (set views seat known) j ≡ some u → IfKnownBegins u g
set_begins g views seat known low here j u e =
    ⊎_elim (λ (t : (j ≡ seat) × (known ≡ u)). subst (λ (z : Option FrontState). IfKnownBegins z g) t.1 here)
    (λ (t : (j ≢ seat) × (get_elem? views j ≡ some u)). low j u t.1) (at_set views seat j known u e)

-- a seat tells what it knows, and keeps it
pub forks : (seat : ℕ) (known : Option FrontState) → Forks KeepsFronts seat known known known
forks seat known x views h at = (
  h.0,
  λ j u e. ⊎_elim (set_begins x.front views seat known h.1 (h.1 seat known at) j u)
      (λ (same : known ≡ u). subst (λ (z : Option FrontState). IfKnownBegins z x.front) same (h.1 seat known at))
      (at_snoc (set views seat known) known u j e),
)

-- a seat knows what it was told
pub merges : (seat : ℕ) (knew : Option FrontState) (other : ℕ) (told : Option FrontState) →
    Merges KeepsFronts seat knew other told told None
merges seat knew other told x views h at apart there =
    let b : IfKnownBegins told x.front =
    ⊎_elim (λ (t : (other ≡ seat) × (told ≡ told)). absurd (apart t.0))
    (λ (t : (other ≢ seat) × (get_elem? views other ≡ some told)). h.1 other told t.1)
    (at_set views seat other told told there) in
    (h.0, set_begins x.front (set views seat told) other None (set_begins x.front views seat told h.1 b) tt)
