-- A targeting after the references in it are replaced by what they name.
use Rattle.std.specs.Prelude.{ℕ, zero, suc, List, [], ◌∷◌, codes, bytes_eq, Option, Some, None}
use Rattle.std.specs.Prelude.{Result, Ok, Err, if◌then◌else◌}
use Rattle.serde_json.specs.Data.{Data, null, boolean, number, string, array, object, Items}
use Rattle.serde_json.specs.Data.{no_items, item, Members, no_members, member}
use Rattle.serde_json.specs.Find.{get_member}
use Rattle.serde_json.specs.View.{items_of}
use Rattle.fp_imports.specs.Numbers.{MOST_REPLACEMENTS}
use Rattle.fp_imports.specs.Numbers.{MOST_EXPANDED_VALUES}

-- why references aren't replaced
pub data Broken : Type 0 where
  unknown : List ℕ → Broken
  too_deep : Broken
  too_large : Broken

-- what a walk makes, and how many values may still be counted; or the fault at which it stops
abbrev pub Walked : Type 0 → Type 0
Walked A = Result (A × ℕ) Broken

-- a walk goes on with the count that is left
abbrev pub onward : {A B : Type 0} → Walked A → (A → ℕ → Walked B) → Walked B
onward (Ok p) f = f p.0 p.1
onward (Err e) f = Err e

-- one more value is counted, and what stands in it comes after it
abbrev pub count_one : {A : Type 0} → ℕ → (ℕ → Walked A) → Walked A
count_one zero f = Err too_large
count_one (suc left) f = f left

-- an object refers to a name where `$ref` is its only member, and a text
abbrev pub reference : Members → Option (List ℕ)
reference (member k (string name) no_members) =
    if bytes_eq k (codes "$ref") then Some name else None
reference ms = None

abbrev pub reference_or : {A : Type 0} → (List ℕ → A) → Option (List ℕ) → A → A
reference_or at None other = other
reference_or at (Some name) other = at name

-- a value with each reference replaced, where `at` says by what. A reference itself isn't counted
abbrev mutual
  pub expansion : (List ℕ → ℕ → Walked Data) → Data → ℕ → Walked Data
  expansion at null left = count_one left (λ n. Ok (null, n))
  expansion at (boolean b) left = count_one left (λ n. Ok (boolean b, n))
  expansion at (number x) left = count_one left (λ n. Ok (number x, n))
  expansion at (string s) left = count_one left (λ n. Ok (string s, n))
  expansion at (array ds) left =
      count_one left (λ n. onward (items_expansion at ds n) (λ es m. Ok (array (items_of es), m)))
  expansion at (object ms) left =
      reference_or (λ name. at name left) (reference ms)
      (count_one left (λ n. onward (members_expansion at ms n) (λ es m. Ok (object es, m))))

  pub items_expansion : (List ℕ → ℕ → Walked Data) → Items → ℕ → Walked (List Data)
  items_expansion at no_items left = Ok ([], left)
  items_expansion at (item d ds) left =
      onward (expansion at d left) (λ e n. onward (items_expansion at ds n)
      (λ es m. Ok (e ∷ es, m)))

  pub members_expansion : (List ℕ → ℕ → Walked Data) → Members → ℕ → Walked Members
  members_expansion at no_members left = Ok (no_members, left)
  members_expansion at (member k d ms) left = onward (expansion at d left) (λ e n.
      onward (members_expansion at ms n) (λ es m. Ok (member k e es, m)))

abbrev pub put_in : (Data → ℕ → Walked Data) → List ℕ → Option Data → ℕ → Walked Data
put_in walk name None left = Err (unknown name)
put_in walk name (Some d) left = walk d left

-- what stands for a name where this many replacements may still stand in one another
abbrev pub replacement : Members → ℕ → List ℕ → ℕ → Walked Data
replacement evaluators zero name left = Err too_deep
replacement evaluators (suc more) name left =
    put_in (expansion (replacement evaluators more)) name (get_member name evaluators) left

-- a targeting with its references replaced, within the limits of both
abbrev pub whole_expansion : Members → Data → Walked Data
whole_expansion evaluators d =
    expansion (replacement evaluators MOST_REPLACEMENTS) d MOST_EXPANDED_VALUES
