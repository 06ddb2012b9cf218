-- What values write: operators at arguments, literals, lists and texts.
use Rattle.std.proofs.Common.{◌≡◌, ℕ, List, [], ◌∷◌, Bool, true, false, ◌&&◌, Option, Some, None, is_some, option_map}
use Rattle.std.proofs.Common.{option_and_then, refl, sym, ap, ap₂, ◌∙◌, if◌then◌else◌}
use Rattle.serde_json.specs.Data as json
use Rattle.serde_json.specs.Find.{as_str}
use Rattle.fp_targeting.specs.Compile.{one_more, rule_of, rules_from, arguments_of}
use Rattle.fp_targeting.specs.Literal.{is_literal, all_literal}
use Rattle.fp_machine.specs.Memory.{are_literals}
use Rattle.fp_machine.specs.Operators.{operator_of, allows}
use Rattle.fp_machine.specs.Rule as tree
use Rattle.fp_machine.specs.Rule.{Rule, Rules, no_rules, rule}
use Rattle.fp_machine.specs.Split.{literal_in}
use Rattle.fp_machine.specs.View.{rules_of}
use Rattle.fp_machine.specs.declared.operator.Operator.{Operator}
use Rattle.fp_targeting.proofs.Trees.{rule_of-operator}

-- ---- the rule of an operator's object

pub record Applied (o : Option Operator) (arguments : Option (List Rule)) (r : Rule) : Type 0 where
  pub operator : Operator
  pub rules : List Rule
  pub named : o ≡ Some operator
  pub are_rules : arguments ≡ Some rules
  pub is : tree.apply operator (rules_of rules) ≡ r

pub applied : (o : Option Operator) (arguments : Option (List Rule)) (r : Rule)
    → option_and_then (λ p. option_and_then
    (λ qs. if allows p (rules_of qs) then Some (tree.apply p (rules_of qs)) else None) arguments) o ≡ Some r →
    Applied o arguments r
applied None arguments r h = absurd (cc)
applied (Some p) None r h = absurd (cc)
applied (Some p) (Some qs) r h = by_test (allows p (rules_of qs)) h where
  by_test : (t : Bool) → (if t then Some (tree.apply p (rules_of qs)) else None) ≡ Some r → Applied (Some p) (Some qs) r
  by_test true e = record { operator = p; rules = qs; named = refl; are_rules = refl; is = cc }
  by_test false e = absurd (cc)

operation : (k : List ℕ) (d : json.Data) (r : Rule) →
    rule_of (json.object (json.member k d json.no_members)) ≡ Some r → Applied (operator_of k) (arguments_of d) r
operation k d r h = applied (operator_of k) (arguments_of d) r (sym (rule_of-operator k d) ∙ h)

-- ---- values that stand for themselves

literal_is : (f : Rule → Bool) {d : _} {r : Rule} → Some (tree.literal d) ≡ Some r → f r ≡ f (tree.literal d)
literal_is f {d = d} {r = r} h = let same : tree.literal d ≡ r = cc in ap f (sym same)

listed_is : (f : Rule → Bool) (o : Option (List Rule)) (r : Rule) →
    option_map (λ rs. tree.list (rules_of rs)) o ≡ Some r → (rs : List Rule) × (o ≡ Some rs) ×
    (f r ≡ f (tree.list (rules_of rs)))
listed_is f None r h = absurd (cc)
listed_is f (Some rs) r h = let same : tree.list (rules_of rs) ≡ r = cc in (rs, refl, ap f (sym same))

literal-written : (d : json.Data) (r : Rule) → rule_of d ≡ Some r → is_some (literal_in r) ≡ is_literal d
literal-written json.null r h = literal_is (λ q. is_some (literal_in q)) h
literal-written (json.boolean b) r h = literal_is (λ q. is_some (literal_in q)) h
literal-written (json.number n) r h = literal_is (λ q. is_some (literal_in q)) h
literal-written (json.string s) r h = literal_is (λ q. is_some (literal_in q)) h
literal-written (json.array ds) r h = (listed_is (λ q. is_some (literal_in q)) (rules_from ds) r h).2
literal-written (json.object json.no_members) r h = literal_is (λ q. is_some (literal_in q)) h
literal-written (json.object (json.member k d json.no_members)) r h = ap (λ q. is_some (literal_in q)) (sym (operation k d r h).is)
literal-written (json.object (json.member k d (json.member l e ms))) r h = literal_is (λ q. is_some (literal_in q)) h

and-if : (a b : Bool) → (a && b) ≡ (if a then b else false)
and-if true b = refl
and-if false b = refl

literals_more : (o : Option Rule) (p : Option (List Rule)) (l m : Bool) (rs : List Rule) →
    ((r : Rule) → o ≡ Some r → is_some (literal_in r) ≡ l) →
    ((qs : List Rule) → p ≡ Some qs → are_literals (rules_of qs) ≡ m)
    → one_more o p ≡ Some rs → are_literals (rules_of rs) ≡ (if l then m else false)
literals_more None p l m rs f g e = absurd (cc)
literals_more (Some r) None l m rs f g e = absurd (cc)
literals_more (Some r) (Some qs) l m rs f g e =
    let same : r ∷ qs ≡ rs = cc in
    ap (λ ss. are_literals (rules_of ss)) (sym same) ∙ ap₂ (λ a b. a && b) (f r refl) (g qs refl) ∙ and-if l m

pub literals-written : (ds : json.Items) (rs : List Rule) → rules_from ds ≡ Some rs → are_literals (rules_of rs) ≡ all_literal ds
literals-written json.no_items rs h = let same : [] ≡ rs = cc in ap (λ ss. are_literals (rules_of ss)) (sym same)
literals-written (json.item d ds) rs h =
    literals_more (rule_of d) (rules_from ds) (is_literal d) (all_literal ds) rs (literal-written d)
    (literals-written ds) h

-- a text
pub written : (d : json.Data) (s : List ℕ) → as_str d ≡ Some s → d ≡ json.string s
written json.null s h = absurd (cc)
written (json.boolean b) s h = absurd (cc)
written (json.number n) s h = absurd (cc)
written (json.string t) s h = let same : t ≡ s = cc in ap json.string same
written (json.array ds) s h = absurd (cc)
written (json.object ms) s h = absurd (cc)
