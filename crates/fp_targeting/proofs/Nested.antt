-- A rule nests no deeper than what writes it.
use Rattle.std.proofs.Common.{◌≡◌, ◌≤◌, ◌+◌, ℕ, List, [], ◌∷◌, Option, Some, None, option_map, refl, ap, max, arith}
use Rattle.serde_json.specs.Data as json
use Rattle.serde_json.specs.Data.{depth, items_depth}
use Rattle.fp_targeting.specs.Compile.{one_more, operator_rule, rule_of, rules_from}
use Rattle.fp_targeting.specs.Nesting.{nesting, nesting_in, most_nesting}
use Rattle.fp_machine.specs.Operators.{operator_of}
use Rattle.fp_machine.specs.Rule as tree
use Rattle.fp_machine.specs.Rule.{Rule, Rules, no_rules, rule}
use Rattle.fp_machine.specs.View.{rules_of}
use Rattle.fp_targeting.proofs.Written.{applied}

abbrev Within : ℕ → Option Rule → Type 0
Within n o = (r : Rule) → o ≡ Some r → nesting r ≤ n

abbrev AllWithin : ℕ → Option (List Rule) → Type 0
AllWithin n o = (rs : List Rule) → o ≡ Some rs → most_nesting (rules_of rs) ≤ n

within-none : (n : ℕ) → AllWithin n (Some [])
within-none n rs h = let e : [] ≡ rs = cc in let f = ap (λ qs. most_nesting (rules_of qs)) e in omega (arith, f)

within-more : (m n : ℕ) (o : Option Rule) (q : Option (List Rule)) → Within m o → AllWithin n q → AllWithin (max m n) (one_more o q)
within-more m n None q f g rs h = absurd (cc)
within-more m n (Some r) None f g rs h = absurd (cc)
within-more m n (Some r) (Some qs) f g rs h =
    let e : r ∷ qs ≡ rs = cc in
    let same = ap (λ ss. most_nesting (rules_of ss)) e in
    let x = f r refl in
    let y = g qs refl in
    omega (arith, same, x, y)

within-literal : {d : _} → Within 0 (Some (tree.literal d))
within-literal {d = d} r h = let e : tree.literal d ≡ r = cc in let f = ap nesting e in omega (arith, f)

within-list : (q : Option (List Rule)) → Within 0 (option_map (λ rs. tree.list (rules_of rs)) q)
within-list None r h = absurd (cc)
within-list (Some rs) r h = let e : tree.list (rules_of rs) ≡ r = cc in let f = ap nesting e in omega (arith, f)

-- several arguments, which stand in a list
listed-in : (rs : Rules) → nesting_in rs ≤ 1 + most_nesting rs
listed-in no_rules = omega arith
listed-in (rule r no_rules) = omega arith
listed-in (rule r (rule q rs)) = omega arith

within-listed : (n : ℕ) (k : List ℕ) (q : Option (List Rule)) → AllWithin n q → Within (2 + n) (operator_rule k q)
within-listed n k q f r h =
    let a = applied (operator_of k) q r h in
    let e = ap nesting a.is in
    omega (arith, e, listed-in (rules_of a.rules), f a.rules a.are_rules)

-- an only argument
only_in : (n : ℕ) (o : Option Rule) (rs : List Rule) → Within n o → one_more o (Some []) ≡ Some rs → nesting_in (rules_of rs) ≤ n
only_in n None rs f h = absurd (cc)
only_in n (Some r) rs f h = let e : r ∷ [] ≡ rs = cc in let same = ap (λ ss. nesting_in (rules_of ss)) e in
    let x = f r refl in omega (arith, same, x)

within-only : (n : ℕ) (k : List ℕ) (o : Option Rule) → Within n o → Within (1 + n) (operator_rule k (one_more o (Some [])))
within-only n k o f r h =
    let a = applied (operator_of k) (one_more o (Some [])) r h in
    let e = ap nesting a.is in
    omega (arith, e, only_in n o a.rules f a.are_rules)

mutual
  pub rule_of-nesting : (d : json.Data) (r : Rule) → rule_of d ≡ Some r → nesting r ≤ depth d
  rule_of-nesting json.null r h = within-literal r h
  rule_of-nesting (json.boolean b) r h = within-literal r h
  rule_of-nesting (json.number n) r h = within-literal r h
  rule_of-nesting (json.string s) r h = within-literal r h
  rule_of-nesting (json.array ds) r h = let x = within-list (rules_from ds) r h in omega (arith, x)
  rule_of-nesting (json.object json.no_members) r h = let x = within-literal r h in omega (arith, x)
  rule_of-nesting (json.object (json.member k json.null json.no_members)) r h = let x =
      within-only 0 k (rule_of json.null) (λ q e. rule_of-nesting json.null q e) r h in omega (arith, x)
  rule_of-nesting (json.object (json.member k (json.boolean b) json.no_members)) r h = let x =
      within-only 0 k (rule_of (json.boolean b)) (λ q e. rule_of-nesting (json.boolean b) q e) r h in omega (arith, x)
  rule_of-nesting (json.object (json.member k (json.number n) json.no_members)) r h = let x =
      within-only 0 k (rule_of (json.number n)) (λ q e. rule_of-nesting (json.number n) q e) r h in omega (arith, x)
  rule_of-nesting (json.object (json.member k (json.string s) json.no_members)) r h = let x =
      within-only 0 k (rule_of (json.string s)) (λ q e. rule_of-nesting (json.string s) q e) r h in omega (arith, x)
  rule_of-nesting (json.object (json.member k (json.array ds) json.no_members)) r h =
      let x = within-listed (items_depth ds) k (rules_from ds) (λ rs e. rules_from-nesting ds rs e) r h in omega (arith, x)
  rule_of-nesting (json.object (json.member k (json.object ms) json.no_members)) r h =
      let x = within-only (depth (json.object ms)) k (rule_of (json.object ms))
      (λ q e. rule_of-nesting (json.object ms) q e) r h in omega (arith, x)
  rule_of-nesting (json.object (json.member k d (json.member l e ms))) r h = let x = within-literal r h in omega (arith, x)

  rules_from-nesting : (ds : json.Items) (rs : List Rule) → rules_from ds ≡ Some rs → most_nesting (rules_of rs) ≤ items_depth ds
  rules_from-nesting json.no_items rs h = within-none 0 rs h
  rules_from-nesting (json.item d ds) rs h =
      within-more (depth d) (items_depth ds) (rule_of d) (rules_from ds) (λ q e. rule_of-nesting d q e)
      (λ qs e. rules_from-nesting ds qs e) rs h
