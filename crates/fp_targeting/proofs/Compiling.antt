-- Operators at arguments that were compiled.
use Rattle.std.proofs.Common.{◌≡◌, ◌≤◌, ℕ, List, [], ◌∷◌, length, Bool, true, false, ◌⊎◌, inl, inr, Option, Some, None}
use Rattle.std.proofs.Common.{is_some, option_map, option_and_then, refl, sym, ap, ◌∙◌, if◌then◌else◌}
use Rattle.std.proofs.lemmas.Bool.{leb-true}
use Rattle.std.proofs.lemmas.Option.{none-some}
use Rattle.serde_json.specs.Data as json
use Rattle.serde_json.specs.Data.{Items, no_items, item}
use Rattle.fp_base.specs.TreeView.{tree_items}
use Rattle.fp_base.specs.declared.tree.Tree.{Tree}
use Rattle.fp_targeting.specs.Compile.{first_unknown, items_unknown, one_more, operator_rule, rules_from, arguments_of}
use Rattle.fp_targeting.specs.Literal.{all_literal}
use Rattle.fp_targeting.specs.Compiles.{NoRule, Compiles, CompileAll, Applies}
use Rattle.fp_targeting.specs.Emits.{Pushed, Adds, Keeps, Decides}
use Rattle.fp_machine.specs.Operators.{operator_of, takes, allows, count_of}
use Rattle.fp_machine.specs.Rule as tree
use Rattle.fp_machine.specs.Rule.{Rule, Rules, no_rules, rule, apply}
use Rattle.fp_targeting.specs.Strict.{is_strict, stops, looks_at_results}
use Rattle.fp_machine.specs.View.{rules_of}
use Rattle.fp_machine.specs.declared.code.Code.{Code}
use Rattle.fp_machine.specs.declared.operator.BinaryOperator.{BinaryOperator}
use Rattle.fp_machine.specs.declared.operator.ChainOperator.{ChainOperator}
use Rattle.fp_machine.specs.declared.operator.Operator.{Operator}
use Rattle.fp_machine.specs.declared.operator.UnaryOperator.{UnaryOperator}
use Rattle.fp_machine.specs.declared.code.Step.TheVariants.{Join, Collect, Wrap, End}
use Rattle.fp_machine.specs.declared.operator.Operator.TheVariants.{If, And, Or, Var, Cat, SemVer, Fractional, Unary, Binary, Chain}
use Rattle.fp_targeting.proofs.Written.{literals-written}
use Rattle.fp_targeting.proofs.Deciding.{added-decided}
use Rattle.fp_targeting.proofs.Emitting.{added-join, added-collect, added-wrap}
use Rattle.fp_targeting.proofs.Parts.{made-into, all-made-into, compile-one, rules_from-length, count_of-rules_of}
use Rattle.fp_targeting.proofs.Trees.{unknown-named, unknown-unnamed, rule_of-operator}

-- ---- what operators take

allows-count : (o : Operator) (rs : Rules) → looks_at_results o ≡ true → allows o rs ≡ takes o (count_of rs)
allows-count If rs h = refl
allows-count And rs h = refl
allows-count Or rs h = refl
allows-count Var rs h = refl
allows-count Cat rs h = refl
allows-count SemVer rs h = refl
allows-count Fractional rs h = absurd (cc)
allows-count (Unary o) rs h = refl
allows-count (Binary o) rs h = refl
allows-count (Chain o) rs h = refl

pub looks-other : (o : Operator) → (o ≡ Fractional → ⊥) → looks_at_results o ≡ true
looks-other If h = refl
looks-other And h = refl
looks-other Or h = refl
looks-other Var h = refl
looks-other Cat h = refl
looks-other SemVer h = refl
looks-other Fractional h = absurd (h refl)
looks-other (Unary o) h = refl
looks-other (Binary o) h = refl
looks-other (Chain o) h = refl

allowed : (o : Operator) (xs : List Tree) (rs : List Rule) → looks_at_results o ≡ true →
    rules_from (tree_items xs) ≡ Some rs → allows o (rules_of rs) ≡ takes o (length xs)
allowed o xs rs looks e = allows-count o (rules_of rs) looks ∙ ap (takes o) (count_of-rules_of rs ∙ rules_from-length xs rs e)

pub applies : (b : Bool) (o : Operator) (P : Rule → Type 0) (xs : List Tree) → looks_at_results o ≡ true → takes o (length xs) ≡ true
    → CompileAll b (λ rs. P (apply o (rules_of rs))) (tree_items xs) → Applies b o P (tree_items xs)
applies true o P xs looks fit x = record {
  rules = x.rules;
  are_rules = x.are_rules;
  known = x.known;
  made = (allowed o xs x.rules looks x.are_rules ∙ fit, x.made);
}
applies false o P xs looks fit none = λ h rs e. absurd (none-some rs (sym (none h) ∙ e))

pub refuses : (o : Operator) (xs : List Tree) → looks_at_results o ≡ true → takes o (length xs) ≡ false
    → items_unknown (tree_items xs) ≡ None → (rs : List Rule) → rules_from (tree_items xs) ≡ Some rs → allows o (rules_of rs) ≡ false
refuses o xs looks fit h rs e = allowed o xs rs looks e ∙ fit

-- ---- an object of one member

formed_rule : (k : List ℕ) (o : Operator) (rs : List Rule) (f : Option Operator) → f ≡ Some o → allows o (rules_of rs) ≡ true
    → option_and_then (λ p. option_and_then
    (λ qs. if allows p (rules_of qs) then Some (tree.apply p (rules_of qs)) else None) (Some rs)) f ≡ Some
    (apply o (rules_of rs))
formed_rule k o rs f e fit = rw (e, fit) refl

unformed : (k : List ℕ) (o : Operator) (rs : Option (List Rule)) (f : Option Operator) → f ≡ Some o →
    ((qs : List Rule) → rs ≡ Some qs → allows o (rules_of qs) ≡ false)
    → option_and_then (λ p. option_and_then (λ qs. if allows p (rules_of qs) then Some (tree.apply p (rules_of qs)) else None) rs) f ≡ None
unformed k o None f e none = rw e refl
unformed k o (Some qs) f e none = rw (e, none qs refl) refl

pub operation : (b : Bool) (k : List ℕ) (o : Operator) (d : json.Data) (ds : Items) (P : Rule → Type 0) →
    operator_of k ≡ Some o → rules_from ds ≡ arguments_of d
    → items_unknown ds ≡ first_unknown d → Applies b o P ds → Compiles b P (json.object (json.member k d json.no_members))
operation true k o d ds P is arguments unknown x = record {
  rule = apply o (rules_of x.rules);
  is_rule = rule_of-operator k d ∙ ap (operator_rule k) (sym arguments ∙ x.are_rules) ∙ formed_rule k o x.rules (operator_of k) is x.made.0;
  known = unknown-named k d (ap is_some is) ∙ sym unknown ∙ x.known;
  made = x.made.1;
}
operation false k o d ds P is arguments unknown none = λ h.
    rule_of-operator k d ∙ ap (operator_rule k) (sym arguments)
    ∙ unformed k o (rules_from ds) (operator_of k) is (none (unknown ∙ sym (unknown-named k d (ap is_some is)) ∙ h))

-- a name that is no operator's
pub unnamed : (k : List ℕ) (d : json.Data) → operator_of k ≡ None → NoRule (json.object (json.member k d json.no_members))
unnamed k d e = λ h. absurd (none-some k (sym h ∙ unknown-unnamed k d (ap is_some e)))

-- ---- operators whose arguments end, or are kept

pub decided : {o : Operator} {n : ℕ} {a c : Code} (h : ℕ) (d : Code) (b : Bool) (xs : List Tree) →
    looks_at_results o ≡ true → Pushed (End o n) a c → n ≡ length xs
    → CompileAll b (λ rs. Decides o h rs c d) (tree_items xs) → CompileAll b (λ rs. Adds h (apply o (rules_of rs)) a d) (tree_items xs)
decided h d b xs looks p same x =
    all-made-into (tree_items xs) b x (λ rs e y. added-decided looks p y (same ∙ sym (rules_from-length xs rs e)))

pub joined_all : {n : ℕ} {a c : Code} (h : ℕ) (d : Code) (b : Bool) (xs : List Tree) → Pushed (Join n) a c → n ≡ length xs
    → CompileAll b (λ rs. Keeps h rs c d) (tree_items xs) → CompileAll b (λ rs. Adds h (apply Cat (rules_of rs)) a d) (tree_items xs)
joined_all h d b xs p same x = all-made-into (tree_items xs) b x (λ rs e y. added-join p y (same ∙ sym (rules_from-length xs rs e)))

-- ---- lists

listed : (P : Rule → Type 0) (ds : Items) (b : Bool) → CompileAll b (λ rs. P (tree.list (rules_of rs))) ds → Compiles b P (json.array ds)
listed P ds true x = record {
  rule = tree.list (rules_of x.rules);
  is_rule = ap (option_map (λ rs. tree.list (rules_of rs))) x.are_rules;
  known = x.known;
  made = x.made;
}
listed P ds false none = λ u. ap (option_map (λ rs. tree.list (rules_of rs))) (none u)

pub collected_all : {n : ℕ} {a c : Code} (h : ℕ) (d : Code) (b : Bool) (xs : List Tree) → Pushed (Collect n) a c → n ≡ length xs
    → all_literal (tree_items xs) ≡ false → CompileAll b (λ rs. Keeps h rs c d) (tree_items xs)
    → Compiles b (λ r. Adds h r a d) (json.array (tree_items xs))
collected_all {a = a} h d b xs p same other x =
    listed (λ r. Adds h r a d) (tree_items xs) b (all-made-into (tree_items xs) b x
    (λ rs e y. added-collect p y (same ∙ sym (rules_from-length xs rs e)) (literals-written (tree_items xs) rs e ∙ other)))

-- an only item's result is wrapped where it is
pub wrapped : {a c : Code} (h : ℕ) (d : Code) (b : Bool) (e : json.Data) → Pushed Wrap a c → all_literal (item e no_items) ≡ false
    → Compiles b (λ r. Adds h r c d) e → Compiles b (λ r. Adds h r a d) (json.array (item e no_items))
wrapped {a = a} h d b e p other x =
    listed (λ r. Adds h r a d) (item e no_items) b (compile-one _ e b (made-into e b x
    (λ r is m. added-wrap p m (literals-written (item e no_items) (r ∷ []) (ap (λ o. one_more o (Some [])) is) ∙ other))))

-- ---- which operator it is, by the arms of a match

pub stops-either : (o : Operator) → (o ≡ And) ⊎ (o ≡ Or) → stops o ≡ true
stops-either o (inl e) = ap stops e
stops-either o (inr e) = ap stops e

pub strict-either : (o : Operator)
    → (o ≡ SemVer) ⊎ ((u : UnaryOperator) × (o ≡ Unary u)) ⊎ ((d : BinaryOperator) × (o ≡ Binary d)) ⊎
    ((k : ChainOperator) × (o ≡ Chain k)) → is_strict o ≡ true
strict-either o (inl e) = ap is_strict e
strict-either o (inr (inl (u, e))) = ap is_strict e
strict-either o (inr (inr (inl (u, e)))) = ap is_strict e
strict-either o (inr (inr (inr (u, e)))) = ap is_strict e

pub stops-any : (o : Operator) (n : ℕ) → (o ≡ And) ⊎ (o ≡ Or) → takes o n ≡ true → 1 ≤ n
stops-any o n (inl e) h = leb-true 1 n (ap (λ p. takes p n) (sym e) ∙ h)
stops-any o n (inr e) h = leb-true 1 n (ap (λ p. takes p n) (sym e) ∙ h)
