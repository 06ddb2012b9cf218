-- Data without references are their own expansion.
use Rattle.std.proofs.Common.{◌≡◌, ◌+◌, ℕ, suc, List, [], ◌∷◌, true, false, Option, Some, None, Ok, refl, ap, ◌∙◌, true≢false, arith}
use Rattle.std.specs.Prelude.{is_some, IfSome}
use Rattle.std.proofs.lemmas.Bool.{or_parts}
use Rattle.serde_json.specs.Data.{Data, null, boolean, number, string, array, object, Items, no_items, item, Members, no_members, member}
use Rattle.serde_json.specs.View.{items_of}
use Rattle.fp_base.specs.Count.{count, items_count, members_count}
use Rattle.fp_imports.specs.References.{Walked, expansion, items_expansion, members_expansion, onward, reference}
use Rattle.fp_imports.specs.Refers.{refers, items_refer, members_refer}
use Rattle.fp_imports.proofs.Walks.{at_array, at_object, items_ok, members_ok}

no_name : (o : Option (List ℕ)) → is_some o ≡ false → o ≡ None
no_name None h = refl
no_name (Some n) h = absurd (true≢false h)

-- the items as a list
abbrev list_of : Items → List Data
list_of no_items = []
list_of (item d ds) = d ∷ list_of ds

items_of-list_of : (ds : Items) → items_of (list_of ds) ≡ ds
items_of-list_of no_items = refl
items_of-list_of (item d ds) = ap (item d) (items_of-list_of ds)

module _ (at : List ℕ → ℕ → Walked Data) where
  mutual
    -- where their count may be counted, with `rest` to spare
    pub expansion-itself : (d : Data) (left rest : ℕ) → left ≡ count d + rest → refers d ≡ false → expansion at d left ≡ Ok (d, rest)
    expansion-itself null left rest e h = let one : left ≡ suc rest = omega arith in ap (expansion at null) one
    expansion-itself (boolean b) left rest e h = let one : left ≡ suc rest = omega arith in ap (expansion at (boolean b)) one
    expansion-itself (number n) left rest e h = let one : left ≡ suc rest = omega arith in ap (expansion at (number n)) one
    expansion-itself (string s) left rest e h = let one : left ≡ suc rest = omega arith in ap (expansion at (string s)) one
    expansion-itself (array ds) left rest e h =
        let n = items_count ds + rest in
        let more : left ≡ suc n = omega arith in
        at_array at ds left n more
        ∙ ap (λ w. onward w (λ es m. Ok (array (items_of es), m))) (items-itself ds n rest refl h)
        ∙ ap (λ es. Ok (array es, rest)) (items_of-list_of ds)
    expansion-itself (object ms) left rest e h =
        let n = members_count ms + rest in
        let more : left ≡ suc n = omega arith in
        let none = or_parts (is_some (reference ms)) (members_refer ms) h in
        at_object at ms left n (no_name (reference ms) none.0) more
        ∙ ap (λ w. onward w (λ es m. Ok (object es, m))) (members-itself ms n rest refl none.1)

    items-itself : (ds : Items) (left rest : ℕ) → left ≡ items_count ds + rest → items_refer ds ≡ false →
        items_expansion at ds left ≡ Ok (list_of ds, rest)
    items-itself no_items left rest e h = let same : left ≡ rest = omega arith in ap (items_expansion at no_items) same
    items-itself (item d ds) left rest e h =
        let none = or_parts (refers d) (items_refer ds) h in
        let all : left ≡ count d + (items_count ds + rest) = omega arith in
        items_ok at d ds left d (items_count ds + rest) (expansion-itself d left (items_count ds + rest) all none.0)
        ∙ ap (λ w. onward w (λ es m. Ok (d ∷ es, m))) (items-itself ds (items_count ds + rest) rest refl none.1)

    members-itself : (ms : Members) (left rest : ℕ) → left ≡ members_count ms + rest → members_refer ms ≡ false →
        members_expansion at ms left ≡ Ok (ms, rest)
    members-itself no_members left rest e h = let same : left ≡ rest = omega arith in ap (members_expansion at no_members) same
    members-itself (member k d ms) left rest e h =
        let none = or_parts (refers d) (members_refer ms) h in
        let all : left ≡ count d + (members_count ms + rest) = omega arith in
        members_ok at k d ms left d (members_count ms + rest) (expansion-itself d left (members_count ms + rest) all none.0)
        ∙ ap (λ w. onward w (λ es m. Ok (member k d es, m))) (members-itself ms (members_count ms + rest) rest refl none.1)

-- what an answer that there is has
pub some-with : {A : Type 0} (o : Option A) {P : A → Type 0} → is_some o ≡ true → IfSome o P → (a : A) × P a
some-with None h p = absurd (cc)
some-with (Some a) h p = (a, p)
