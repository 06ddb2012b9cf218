-- A rule takes no more than three places for each value of what writes it.
use Rattle.std.proofs.Common.{◌≡◌, ◌≤◌, ◌+◌, ◌*◌, ℕ, List, [], ◌∷◌, Bool, true, false, Option, Some, None, option_map}
use Rattle.std.proofs.Common.{option_and_then, refl, ap, arith, if◌then◌else◌}
use Rattle.serde_json.specs.Data as json
use Rattle.fp_base.specs.Count.{count, items_count}
use Rattle.fp_operators.specs.Data.{Data}
use Rattle.fp_targeting.specs.Compile.{one_more, operator_rule, rule_of, rules_from}
use Rattle.fp_machine.specs.Operators.{operator_of, allows}
use Rattle.fp_targeting.specs.Places.{places, all_places}
use Rattle.fp_machine.specs.Rule as tree
use Rattle.fp_machine.specs.Rule.{Rule}
use Rattle.fp_machine.specs.View.{rules_of}
use Rattle.fp_machine.specs.declared.operator.Operator.{Operator}

abbrev Within : ℕ → Option Rule → Type 0
Within n o = (r : Rule) → o ≡ Some r → places r ≤ n

abbrev AllWithin : ℕ → Option (List Rule) → Type 0
AllWithin n o = (rs : List Rule) → o ≡ Some rs → all_places (rules_of rs) ≤ n

within-none : (n : ℕ) → AllWithin n (Some [])
within-none n rs h = let e : [] ≡ rs = cc in let f = ap (λ qs. all_places (rules_of qs)) e in omega (arith, f)

within-more : (m n : ℕ) (o : Option Rule) (q : Option (List Rule)) → Within m o → AllWithin n q → AllWithin (m + n) (one_more o q)
within-more m n None q f g rs h = absurd (cc)
within-more m n (Some r) None f g rs h = absurd (cc)
within-more m n (Some r) (Some qs) f g rs h =
    let e : r ∷ qs ≡ rs = cc in
    let same = ap (λ ss. all_places (rules_of ss)) e in
    let x = f r refl in
    let y = g qs refl in
    omega (arith, same, x, y)

within-literal : (n : ℕ) (d : Data) → 1 ≤ n → Within n (Some (tree.literal d))
within-literal n d any r h = let e : tree.literal d ≡ r = cc in let f = ap places e in omega (arith, any, f)

within-list : (n : ℕ) (q : Option (List Rule)) → AllWithin n q → Within (1 + n) (option_map (λ rs. tree.list (rules_of rs)) q)
within-list n None g r h = absurd (cc)
within-list n (Some rs) g r h = let e : tree.list (rules_of rs) ≡ r = cc in let f = ap places e in let x = g rs refl in omega (arith, f, x)

within_if : (b : Bool) (n : ℕ) (o : Operator) (rs : List Rule) → all_places (rules_of rs) ≤ n →
    Within (3 + n) (if b then Some (tree.apply o (rules_of rs)) else None)
within_if true n o rs few r h = let e : tree.apply o (rules_of rs) ≡ r = cc in let f = ap places e in omega (arith, f, few)
within_if false n o rs few r h = absurd (cc)

within-apply : (n : ℕ) (p : Option Operator) (q : Option (List Rule)) → AllWithin n q
    → Within (3 + n) (option_and_then
    (λ o. option_and_then (λ rs. if allows o (rules_of rs) then Some (tree.apply o (rules_of rs)) else None) q) p)
within-apply n None q g r h = absurd (cc)
within-apply n (Some o) None g r h = absurd (cc)
within-apply n (Some o) (Some rs) g r h = within_if (allows o (rules_of rs)) n o rs (g rs refl) r h

within-operator : (n : ℕ) (k : List ℕ) (q : Option (List Rule)) → AllWithin n q → Within (3 + n) (operator_rule k q)
within-operator n k q g = within-apply n (operator_of k) q g

-- an only argument
within-one : (n : ℕ) (k : List ℕ) (d : json.Data) → Within n (rule_of d) → Within (3 + n) (operator_rule k (one_more (rule_of d) (Some [])))
within-one n k d f r h =
    let x = within-operator (n + 0) k (one_more (rule_of d) (Some [])) (within-more n 0 (rule_of d) (Some []) f (within-none 0)) r h in
    omega (arith, x)

only_within : (k : List ℕ) (d : json.Data) → Within (3 * count d) (rule_of d) →
    Within (3 + 3 * count d) (operator_rule k (one_more (rule_of d) (Some [])))
only_within k d f r h = within-one (3 * count d) k d f r h

mutual
  pub rule_of-places : (d : json.Data) (r : Rule) → rule_of d ≡ Some r → places r ≤ 3 * count d
  rule_of-places json.null r h = within-literal 3 _ (omega arith) r h
  rule_of-places (json.boolean b) r h = within-literal 3 _ (omega arith) r h
  rule_of-places (json.number n) r h = within-literal 3 _ (omega arith) r h
  rule_of-places (json.string s) r h = within-literal 3 _ (omega arith) r h
  rule_of-places (json.array ds) r h =
      let x = within-list (3 * items_count ds) (rules_from ds) (λ rs e. rules_from-places ds rs e) r h in
      omega (arith, x)
  rule_of-places (json.object json.no_members) r h = within-literal 3 _ (omega arith) r h
  rule_of-places (json.object (json.member k json.null json.no_members)) r h = let x =
      only_within k json.null (λ q e. rule_of-places json.null q e) r h in omega (arith, x)
  rule_of-places (json.object (json.member k (json.boolean b) json.no_members)) r h = let x =
      only_within k (json.boolean b) (λ q e. rule_of-places (json.boolean b) q e) r h in omega (arith, x)
  rule_of-places (json.object (json.member k (json.number n) json.no_members)) r h = let x =
      only_within k (json.number n) (λ q e. rule_of-places (json.number n) q e) r h in omega (arith, x)
  rule_of-places (json.object (json.member k (json.string s) json.no_members)) r h = let x =
      only_within k (json.string s) (λ q e. rule_of-places (json.string s) q e) r h in omega (arith, x)
  rule_of-places (json.object (json.member k (json.array ds) json.no_members)) r h =
      let x = within-operator (3 * items_count ds) k (rules_from ds) (λ rs e. rules_from-places ds rs e) r h in
      omega (arith, x)
  rule_of-places (json.object (json.member k (json.object ms) json.no_members)) r h = let x =
      only_within k (json.object ms) (λ q e. rule_of-places (json.object ms) q e) r h in omega (arith, x)
  rule_of-places (json.object (json.member k d (json.member l e ms))) r h =
      let x = within-literal 3 _ (omega arith) r h in
      omega (arith, x)

  rules_from-places : (ds : json.Items) (rs : List Rule) → rules_from ds ≡ Some rs → all_places (rules_of rs) ≤ 3 * items_count ds
  rules_from-places json.no_items rs h = let x = within-none 0 rs h in omega (arith, x)
  rules_from-places (json.item d ds) rs h =
      let x = within-more (3 * count d) (3 * items_count ds) (rule_of d) (rules_from ds)
      (λ q e. rule_of-places d q e) (λ qs e. rules_from-places ds qs e) rs h in
      omega (arith, x)
