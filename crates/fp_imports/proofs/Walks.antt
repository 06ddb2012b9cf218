-- Walks, step by step.
use Rattle.std.proofs.Common.{◌≡◌, sym, ℕ, zero, suc, ◌+◌, ◌*◌, Option, Some, None, ◌<◌, ◌≤◌, List, [], ◌∷◌, ◌++◌}
use Rattle.std.proofs.Common.{length, get_or, Result, Ok, Err, string_bytes, refl, ap, ◌∙◌, append_assoc, arith}
use Rattle.serde_json.specs.Data.{Data, null, boolean, number, string, array, object, Items, item, depth, items_depth}
use Rattle.serde_json.specs.Data.{members_depth, Members, no_members, member}
use Rattle.serde_json.specs.View.{items_of}
use Rattle.serde_json.specs.Find.{get_member}
use Rattle.fp_base.specs.Answer.{Gives}
use Rattle.fp_base.specs.TreeView.{Entry, tree_view, tree_items, tree_members}
use Rattle.fp_base.specs.declared.tree.Tree.{Tree}
use Rattle.fp_base.proofs.Sorted.{append, append-one}
use Rattle.fp_imports.specs.References.{Walked, Broken, unknown, too_deep, too_large, onward, count_one, reference}
use Rattle.fp_imports.specs.References.{reference_or, expansion, items_expansion, members_expansion, put_in}
use Rattle.fp_imports.specs.References.{replacement}
use Rattle.fp_imports.specs.Faults.{TellsBroken}
use Rattle.fp_imports.specs.declared.faults.ReferenceFault.{ReferenceFault}
use Rattle.fp_imports.specs.declared.faults.ReferenceFault.TheVariants.{Unknown, TooDeep, TooLarge, Memory}

-- a list and an object as data
pub only-member : (ms : List Entry) (m : Entry) → length ms ≡ 1 → m ≡ get_or ms 0 m →
    tree_members ms ≡ member m.0.now (tree_view m.1) no_members
only-member [] m h e = absurd (omega arith)
only-member (x ∷ []) m h e = ap (λ y. tree_members (y ∷ [])) (sym e)
only-member (x ∷ y ∷ ms) m h e = absurd (omega arith)

several : (k l : List ℕ) (d e : Data) (ms : Members) → reference (member k d (member l e ms)) ≡ None
several k l null e ms = refl
several k l (boolean b) e ms = refl
several k l (number n) e ms = refl
several k l (string s) e ms = refl
several k l (array ds) e ms = refl
several k l (object ns) e ms = refl

-- a reference is the only member of its object
pub not-one : (ms : List Entry) → (length ms ≡ 1 → ⊥) → reference (tree_members ms) ≡ None
not-one [] h = refl
not-one (x ∷ []) h = absurd (h refl)
not-one (x ∷ y ∷ ms) h = several x.0.now y.0.now (tree_view x.1) (tree_view y.1) (tree_members ms)

abbrev pub names : Members → List (List ℕ)
names no_members = []
names (member k d ms) = k ∷ names ms

pub names-one : (ms : List Entry) (m : Entry) → names (tree_members (ms ++ m ∷ [])) ≡ names (tree_members ms) ++ m.0.now ∷ []
names-one [] m = refl
names-one (x ∷ ms) m = ap (λ ns. x.0.now ∷ ns) (names-one ms m)

-- those that were walked stand before those that are walked next
abbrev pub after_items : List Data → Walked (List Data) → Walked (List Data)
after_items xs w = onward w (λ es m. Ok (xs ++ es, m))

abbrev pub after_members : Members → Walked Members → Walked Members
after_members ms w = onward w (λ es m. Ok (append ms es, m))

pub after_items-one : (xs : List Data) (e : Data) (w : Walked (List Data)) →
    after_items (xs ++ e ∷ []) w ≡ after_items xs (onward w (λ es m. Ok (e ∷ es, m)))
after_items-one xs e (Ok p) = ap (λ (ys : List Data). Ok (ys, p.1)) (append_assoc xs (e ∷ []) p.0)
after_items-one xs e (Err x) = refl

pub after_members-one : (ms : Members) (k : List ℕ) (e : Data) (w : Walked Members) →
    after_members (append ms (member k e no_members)) w ≡ after_members ms (onward w (λ es m. Ok (member k e es, m)))
after_members-one ms k e (Ok p) = ap (λ (ys : Members). Ok (ys, p.1)) (append-one ms k e p.0)
after_members-one ms k e (Err x) = refl

-- a fault is the same fault of what holds the faulty part
pub gives_err : {A B C D : Type 0} (f : A → B) (g : C → D) (e : ReferenceFault) (w : Result B Broken) (u : Result D Broken)
    → Gives f TellsBroken (Err e) w → ((x : Broken) → w ≡ Err x → u ≡ Err x) → Gives g TellsBroken (Err e) u
gives_err f g (Unknown s) w u h k = k (unknown (string_bytes s)) h
gives_err f g TooDeep w u h k = k too_deep h
gives_err f g TooLarge w u h k = k too_large h
gives_err f g Memory w u h k = tt

-- how deep parts are
pub item_depth : (ts : List Tree) (i : ℕ) (d : Tree) → i < length ts → depth (tree_view (get_or ts i d)) ≤ items_depth (tree_items ts)
item_depth [] i d h = absurd (omega arith)
item_depth (t ∷ ts) zero d h = omega arith
item_depth (t ∷ ts) (suc i) d h = let rest = item_depth ts i d (omega arith) in omega arith

pub member_depth : (ms : List Entry) (i : ℕ) (m : Entry) → i < length ms →
    depth (tree_view (get_or ms i m).1) ≤ members_depth (tree_members ms)
member_depth [] i m h = absurd (omega arith)
member_depth (x ∷ ms) zero m h = omega arith
member_depth (x ∷ ms) (suc i) m h = let rest = member_depth ms i m (omega arith) in omega arith

-- the measure
pub falls_part : (a d i t : ℕ) → t ≡ 2 * (a + i) + 1 → d ≤ i → 2 * (a + d) < t
falls_part a d i t h k = omega arith

pub falls_reference : (a d v t : ℕ) → t ≡ 2 * (a + v) → v ≡ suc d → 2 * a + 1 < t
falls_reference a d v t h k = omega arith

pub falls_replaced : (m n top d t : ℕ) → m ≡ n + 1 → t ≡ 2 * (m * suc top) + 1 → d ≤ suc top → 2 * (n * suc top + d) < t
falls_replaced m n top d t h k l =
    let more : (n + 1) * suc top ≡ n * suc top + suc top = grind arith in
    let t_is : t ≡ 2 * ((n + 1) * suc top) + 1 = k ∙ ap (λ x. 2 * (x * suc top) + 1) h in omega arith

-- a reference, and what stands for its name
pub at_reference : (at : List ℕ → ℕ → Walked Data) (ms : Members) (name : List ℕ) (left : ℕ) →
    reference ms ≡ Some name → expansion at (object ms) left ≡ at name left
at_reference at ms name left h =
    ap (λ r. reference_or (λ n. at n left) r
    (count_one left (λ n. onward (members_expansion at ms n) (λ es m. Ok (object es, m))))) h

pub at_name : (evaluators : Members) (name : List ℕ) (m more left : ℕ) (r : Option Data) → get_member name evaluators ≡ r → m ≡ suc more
    → replacement evaluators m name left ≡ put_in (expansion (replacement evaluators more)) name r left
at_name evaluators name m more left r e k = ap (λ x. replacement evaluators x name left) k ∙
    ap (λ x. put_in (expansion (replacement evaluators more)) name x left) e

-- a list, and an object that is no reference
pub at_array : (at : List ℕ → ℕ → Walked Data) (ds : Items) (left n : ℕ) → left ≡ suc n →
    expansion at (array ds) left ≡ onward (items_expansion at ds n) (λ es m. Ok (array (items_of es), m))
at_array at ds left n h = ap (expansion at (array ds)) h

pub at_object : (at : List ℕ → ℕ → Walked Data) (ms : Members) (left n : ℕ) → reference ms ≡ None → left ≡ suc n →
    expansion at (object ms) left ≡ onward (members_expansion at ms n) (λ es m. Ok (object es, m))
at_object at ms left n h k =
    ap (expansion at (object ms)) k ∙
    ap (λ r. reference_or (λ name. at name (suc n)) r
    (onward (members_expansion at ms n) (λ es m. Ok (object es, m)))) h

pub at_full : (at : List ℕ → ℕ → Walked Data) (ms : Members) (left : ℕ) → reference ms ≡ None → left ≡ 0 →
    expansion at (object ms) left ≡ Err too_large
at_full at ms left h k = ap (expansion at (object ms)) k ∙ ap (λ r. reference_or (λ name. at name 0) r (Err too_large)) h

-- the walk of one more part
pub items_err : (at : List ℕ → ℕ → Walked Data) (d : Data) (ds : Items) (left : ℕ) (x : Broken) →
    expansion at d left ≡ Err x → items_expansion at (item d ds) left ≡ Err x
items_err at d ds left x h = ap (λ r. onward r (λ e n. onward (items_expansion at ds n) (λ es m. Ok (e ∷ es, m)))) h

pub items_ok : (at : List ℕ → ℕ → Walked Data) (d : Data) (ds : Items) (left : ℕ) (e : Data) (n : ℕ) → expansion at d left ≡ Ok (e, n)
    → items_expansion at (item d ds) left ≡ onward (items_expansion at ds n) (λ es m. Ok (e ∷ es, m))
items_ok at d ds left e n h = ap (λ r. onward r (λ f p. onward (items_expansion at ds p) (λ es m. Ok (f ∷ es, m)))) h

pub members_ok : (at : List ℕ → ℕ → Walked Data) (k : List ℕ) (d : Data) (ds : Members) (left : ℕ) (e : Data) (n : ℕ)
    → expansion at d left ≡ Ok (e, n)
    → members_expansion at (member k d ds) left ≡ onward (members_expansion at ds n) (λ es m. Ok (member k e es, m))
members_ok at k d ds left e n h = ap (λ r. onward r (λ f p. onward (members_expansion at ds p) (λ es m. Ok (member k f es, m)))) h

pub members_err : (at : List ℕ → ℕ → Walked Data) (k : List ℕ) (d : Data) (ds : Members) (left : ℕ) (x : Broken) →
    expansion at d left ≡ Err x → members_expansion at (member k d ds) left ≡ Err x
members_err at k d ds left x h = ap (λ r. onward r (λ e n. onward (members_expansion at ds n) (λ es m. Ok (member k e es, m)))) h
