-- What a walk makes of ordered data, with evaluators that are ordered, is ordered.
use Rattle.std.proofs.Common.{◌≡◌, ℕ, zero, suc, List, ◌∷◌, Option, Some, None, Result, Ok, Err, refl, subst}
use Rattle.std.specs.Prelude.{⊤, IfOk}
use Rattle.serde_json.specs.Data.{Data, null, boolean, number, string, array, object, Items, no_items, item, Members, no_members, member}
use Rattle.serde_json.specs.Find.{get_member}
use Rattle.serde_json.specs.View.{items_of}
use Rattle.fp_base.specs.Answer.{Gives}
use Rattle.fp_base.specs.Ordered.{IsOrdered, AreOrdered, MembersAreOrdered}
use Rattle.fp_base.specs.Sorted.{IsBelow, IsSorted}
use Rattle.fp_base.specs.TreeView.{tree_view}
use Rattle.fp_base.specs.declared.tree.Tree.{Tree}
use Rattle.fp_base.proofs.Inside.{ordered_get}
use Rattle.fp_imports.specs.Faults.{TellsBroken, with_rest}
use Rattle.fp_imports.specs.References.{Walked, onward, count_one, expansion, items_expansion, members_expansion}
use Rattle.fp_imports.specs.References.{put_in, reference, reference_or, replacement, whole_expansion}
use Rattle.fp_imports.specs.declared.faults.ReferenceFault.{ReferenceFault}

abbrev IfMade : {A : Type 0} → Walked A → (A → Type 0) → Type 0
IfMade (Ok p) P = P p.0
IfMade (Err e) P = ⊤

onward-made : {A B : Type 0} (w : Walked A) (f : A → ℕ → Walked B) (P : A → Type 0) (Q : B → Type 0) → IfMade w P →
    ((a : A) (n : ℕ) → P a → IfMade (f a n) Q) → IfMade (onward w f) Q
onward-made (Ok p) f P Q h g = g p.0 p.1 h
onward-made (Err e) f P Q h g = tt

count-made : {A : Type 0} (left : ℕ) (f : ℕ → Walked A) (Q : A → Type 0) → ((n : ℕ) → IfMade (f n) Q) → IfMade (count_one left f) Q
count-made zero f Q h = tt
count-made (suc left) f Q h = h left

reference-made : {A : Type 0} (r : Option (List ℕ)) (at : List ℕ → Walked A) (other : Walked A) (Q : A → Type 0) →
    ((name : List ℕ) → IfMade (at name) Q) → IfMade other Q
    → IfMade (reference_or at r other) Q
reference-made None at other Q h k = k
reference-made (Some name) at other Q h k = h name

abbrev Keeps : Members → Members → Type 0
Keeps ms es = IsOrdered (object es) × ((k : List ℕ) → IsBelow k ms → IsBelow k es)

module _ (at : List ℕ → ℕ → Walked Data) (ordered : (name : List ℕ) (left : ℕ) → IfMade (at name left) IsOrdered) where
  mutual
    expansion-ordered : (d : Data) (left : ℕ) → IsOrdered d → IfMade (expansion at d left) IsOrdered
    expansion-ordered null left h = count-made left (λ n. Ok (null, n)) IsOrdered (λ n. h)
    expansion-ordered (boolean b) left h = count-made left (λ n. Ok (boolean b, n)) IsOrdered (λ n. h)
    expansion-ordered (number x) left h = count-made left (λ n. Ok (number x, n)) IsOrdered (λ n. h)
    expansion-ordered (string s) left h = count-made left (λ n. Ok (string s, n)) IsOrdered (λ n. h)
    expansion-ordered (array ds) left h =
        count-made left (λ n. onward (items_expansion at ds n) (λ es m. Ok (array (items_of es), m))) IsOrdered
        (λ n. onward-made (items_expansion at ds n) (λ es m. Ok (array (items_of es), m))
        (λ es. AreOrdered (items_of es)) IsOrdered (items-ordered ds n h) (λ es m p. p))
    expansion-ordered (object ms) left h =
        reference-made (reference ms) (λ name. at name left)
        (count_one left (λ n. onward (members_expansion at ms n) (λ es m. Ok (object es, m)))) IsOrdered
        (λ name. ordered name left)
        (count-made left (λ n. onward (members_expansion at ms n) (λ es m. Ok (object es, m))) IsOrdered
        (λ n. onward-made (members_expansion at ms n) (λ es m. Ok (object es, m)) (Keeps ms) IsOrdered
        (members-ordered ms n h.0 h.1) (λ es m p. p.0)))

    items-ordered : (ds : Items) (left : ℕ) → AreOrdered ds → IfMade (items_expansion at ds left) (λ es. AreOrdered (items_of es))
    items-ordered no_items left h = tt
    items-ordered (item d ds) left h =
        onward-made (expansion at d left) (λ e n. onward (items_expansion at ds n) (λ es m. Ok (e ∷ es, m)))
        IsOrdered (λ es. AreOrdered (items_of es)) (expansion-ordered d left h.0)
        (λ e n p. onward-made (items_expansion at ds n) (λ es m. Ok (e ∷ es, m)) (λ es. AreOrdered (items_of es))
        (λ es. AreOrdered (items_of es)) (items-ordered ds n h.1) (λ es m q. (p, q)))

    -- names stay as they are
    members-ordered : (ms : Members) (left : ℕ) → IsSorted ms → MembersAreOrdered ms → IfMade (members_expansion at ms left) (Keeps ms)
    members-ordered no_members left s h = ((tt, tt), λ k b. tt)
    members-ordered (member k d ms) left s h =
        onward-made (expansion at d left) (λ e n. onward (members_expansion at ms n) (λ es m. Ok (member k e es, m)))
        IsOrdered (Keeps (member k d ms)) (expansion-ordered d left h.0)
        (λ e n p. onward-made (members_expansion at ms n) (λ es m. Ok (member k e es, m)) (Keeps ms)
        (Keeps (member k d ms)) (members-ordered ms n s.1 h.1)
        (λ es m q. (((q.1 k s.0, q.0.0), (p, q.0.1)), λ l b. (b.0, q.1 l b.1))))

put_in-made : (walk : Data → ℕ → Walked Data) (name : List ℕ) (o : Option Data) (left : ℕ) →
    ((d : Data) → o ≡ Some d → IfMade (walk d left) IsOrdered) → IfMade (put_in walk name o left) IsOrdered
put_in-made walk name None left k = tt
put_in-made walk name (Some d) left k = k d refl

replacement-ordered : (evaluators : Members) → IsOrdered (object evaluators) →
    (more : ℕ) (name : List ℕ) (left : ℕ) → IfMade (replacement evaluators more name left) IsOrdered
replacement-ordered evaluators h zero name left = tt
replacement-ordered evaluators h (suc more) name left =
    put_in-made (expansion (replacement evaluators more)) name (get_member name evaluators) left
    (λ d is. expansion-ordered (replacement evaluators more) (replacement-ordered evaluators h more) d left
    (ordered_get name (object evaluators) d h is))

given-made : (r : Result (Tree × ℕ) ReferenceFault) (w : Walked Data) → Gives (with_rest tree_view) TellsBroken r w →
    IfMade w IsOrdered → IfOk r (λ p. IsOrdered (tree_view p.0))
given-made (Ok p) w h m = subst (λ x. IfMade x IsOrdered) h m
given-made (Err e) w h m = tt

-- a targeting that was made anew
pub expanded-ordered : (evaluators : Members) (d : Data) (r : Result (Tree × ℕ) ReferenceFault) →
    IsOrdered (object evaluators) → IsOrdered d
    → Gives (with_rest tree_view) TellsBroken r (whole_expansion evaluators d) → IfOk r (λ p. IsOrdered (tree_view p.0))
expanded-ordered evaluators d r h k g =
    given-made r (whole_expansion evaluators d) g
    (expansion-ordered (replacement evaluators 8) (replacement-ordered evaluators h 8) d 16384 k)
