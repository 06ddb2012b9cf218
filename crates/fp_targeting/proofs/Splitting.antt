-- `fractional`: pairs alone, and pairs behind a bucketing rule.
use Rattle.std.proofs.Common.{◌≡◌, ℕ, List, [], ◌∷◌, length, Bool, true, false, ◌&&◌, Option, Some, None, is_some}
use Rattle.std.proofs.Common.{option_map, option_and_then, refl, sym, ap, ◌∙◌, subst, arith, if◌then◌else◌}
use Rattle.std.proofs.lemmas.Option.{none-some}
use Rattle.serde_json.specs.Data as json
use Rattle.serde_json.specs.Data.{Items, no_items, item}
use Rattle.fp_base.specs.TreeView.{tree_view, tree_items}
use Rattle.fp_base.specs.declared.tree.Tree.{Tree}
use Rattle.fp_operators.specs.Data.{Data, null}
use Rattle.fp_operators.specs.FromJson.{data_of}
use Rattle.fp_targeting.specs.Compile.{first_unknown, items_unknown, one_more, rule_of, rules_from, arguments_of}
use Rattle.fp_targeting.specs.Compiles.{AreCompiled, Compiles, Applies, CompileSplit, is_array}
use Rattle.fp_targeting.specs.Emits.{Pushed, Adds, IsOperand}
use Rattle.fp_machine.specs.Machine.{run, look, share_of_key}
use Rattle.fp_machine.specs.Meaning.{meaning, meanings}
use Rattle.fp_machine.specs.Operators.{operator_of, allows}
use Rattle.fp_machine.specs.Reading.{reads, read, in_order}
use Rattle.fp_machine.specs.Rule as tree
use Rattle.fp_machine.specs.Rule.{Rule, Rules, no_rules, rule, apply}
use Rattle.fp_machine.specs.Split.{is_list, is_any, is_split, total_of, text_in, split_value, own_key}
use Rattle.fp_machine.specs.View.{rules_of}
use Rattle.fp_machine.specs.declared.code.Code.{Code}
use Rattle.fp_machine.specs.declared.code.Operand.{Operand}
use Rattle.fp_machine.specs.declared.operator.Operator.{Operator}
use Rattle.fp_machine.specs.declared.code.Operand.TheVariants.{AtHand}
use Rattle.fp_machine.specs.declared.code.Step.TheVariants.{Split, SplitByOwnKey}
use Rattle.fp_machine.specs.declared.operator.Operator.TheVariants.{Fractional}
use Rattle.fp_targeting.proofs.Trees.{rule_of-operator}
use Rattle.fp_targeting.proofs.Frugal.{pushed-frugal, operand-frugal, first-none, first-deep}
use Rattle.fp_targeting.proofs.Emitting.{operand-order, grows-trans, pushed-has, pushed-few, pushed-grows, pushed-run, pushed-read}
use Rattle.fp_targeting.proofs.Parts.{both-known, both-compiled, same-items, rules_from-length}
use Rattle.fp_targeting.proofs.Tables.{mapped}

-- ---- what is added

-- the rule's result is the key
split-key : (root : Data) (r : Rule) (pairs : Rules) → is_list r ≡ false
    → share_of_key pairs (text_in (meaning root r)) ≡ split_value root (rule r pairs) (meanings root (rule r pairs))
split-key root r pairs other = rw other refl

pub split-lent : {h : ℕ} {o : Operand} {r : Rule} {pairs : Rules} {a b d : Code} → is_list r ≡ false →
    IsOperand o r a b → Pushed (Split o pairs) b d
    → Adds h (tree.apply Fractional (rule r pairs)) a d
split-lent {o = o} {r = r} {pairs = pairs} {a = a} other x p = record {
  grows = grows-trans x.grows (pushed-grows p);
  few = omega (arith, x.few, pushed-few p);
  runs = λ env e root v s _.
      pushed-run p env root v s
      ∙ ap (λ cs. run env root cs 0 (share_of_key pairs (text_in (look env root v o))) s) (operand-order x)
      ∙ ap (λ w. run env root (in_order a) 0 (share_of_key pairs (text_in w)) s) (x.looks env (pushed-has p env e) root v)
      ∙ ap (λ w. run env root (in_order a) 0 w s) (split-key root r pairs other);
  reads = λ env e t.
      pushed-read p env t ∙ ap (λ cs. read env cs (reads env (Split o pairs) t)) (operand-order x)
      ∙ ap (λ (y : Rule × List Rule). read env (in_order a) (tree.apply Fractional (rule y.0 pairs) ∷ y.1))
      (x.reads env (pushed-has p env e) t);
  frugal = λ none deep f. pushed-frugal p refl (operand-frugal x f);
}

pub split-computed : {h : ℕ} {r : Rule} {pairs : Rules} {a b d : Code} → is_list r ≡ false → Pushed (Split AtHand pairs) a b → Adds h r b d
    → Adds h (tree.apply Fractional (rule r pairs)) a d
split-computed {r = r} {pairs = pairs} {a = a} other p x = record {
  grows = grows-trans (pushed-grows p) x.grows;
  few = omega (arith, pushed-few p, x.few);
  runs = λ env e root v s l.
      x.runs env e root v s l ∙ pushed-run p env root (meaning root r) s
      ∙ ap (λ w. run env root (in_order a) 0 w s) (split-key root r pairs other);
  reads = λ env e t. x.reads env e t ∙ pushed-read p env (r ∷ t);
  frugal = λ none deep f. x.frugal (first-none r pairs none) (first-deep _ Fractional r pairs deep) (pushed-frugal p refl f);
}

none-chosen : (o : Option (List ℕ)) → share_of_key no_rules o ≡ null
none-chosen None = refl
none-chosen (Some k) = refl

own_key-split : (root : Data) (rs : Rules) → is_some (total_of rs) ≡ true →
    share_of_key rs (own_key root) ≡ split_value root rs (meanings root rs)
own_key-split root no_rules h = none-chosen (own_key root)
own_key-split root (rule (tree.literal d) rs) h = absurd (cc)
own_key-split root (rule (tree.list qs) rs) h = refl
own_key-split root (rule (tree.apply o qs) rs) h = absurd (cc)

added-split_by_own_key : {h : ℕ} {pairs : Rules} {a b : Code} → is_some (total_of pairs) ≡ true →
    Pushed (SplitByOwnKey pairs) a b → Adds h (tree.apply Fractional pairs) a b
added-split_by_own_key {pairs = pairs} {a = a} total p = record {
  grows = pushed-grows p;
  few = omega (arith, pushed-few p);
  runs = λ env e root v s _. pushed-run p env root v s ∙ ap (λ w. run env root (in_order a) 0 w s) (own_key-split root pairs total);
  reads = λ env e t. pushed-read p env t;
  frugal = λ none deep f. pushed-frugal p refl f;
}

pub compiled-pairs : (ds : json.Items) (pairs : Rules) (a b : Code) →
    option_map rules_of (rules_from ds) ≡ Some pairs → items_unknown ds ≡ None → is_some (total_of pairs) ≡ true
    → Pushed (SplitByOwnKey pairs) a b
    → AreCompiled (λ rs. (is_some (total_of (rules_of rs)) ≡ true) × ((h : ℕ) → Adds h (tree.apply Fractional (rules_of rs)) a b)) ds
compiled-pairs ds pairs a b e known total p =
    let m = mapped rules_of (rules_from ds) pairs e in record {
      rules = m.0;
      are_rules = m.1;
      known = known;
      made = subst (λ q. (is_some (total_of q) ≡ true) × ((h : ℕ) → Adds h (tree.apply Fractional q) a b)) (sym m.2)
          (total, λ h. added-split_by_own_key total p);
    }

-- ---- which rules are lists

list-applied : (k : List ℕ) (o : Option Operator) (arguments : Option (List Rule)) (r : Rule)
    → option_and_then (λ p. option_and_then
    (λ qs. if allows p (rules_of qs) then Some (tree.apply p (rules_of qs)) else None) arguments) o ≡ Some r →
    is_list r ≡ false
list-applied k None arguments r h = absurd (cc)
list-applied k (Some p) None r h = absurd (cc)
list-applied k (Some p) (Some qs) r h = by_test (allows p (rules_of qs)) h where
  by_test : (t : Bool) → (if t then Some (tree.apply p (rules_of qs)) else None) ≡ Some r → is_list r ≡ false
  by_test true e = let same : tree.apply p (rules_of qs) ≡ r = cc in ap is_list (sym same)
  by_test false e = absurd (cc)

list-mapped : (o : Option (List Rule)) (r : Rule) → option_map (λ rs. tree.list (rules_of rs)) o ≡ Some r → is_list r ≡ true
list-mapped None r h = absurd (cc)
list-mapped (Some rs) r h = let same : tree.list (rules_of rs) ≡ r = cc in ap is_list (sym same)

literal-list : (d : Data) (r : Rule) → Some (tree.literal d) ≡ Some r → is_list r ≡ false
literal-list d r h = let same : tree.literal d ≡ r = cc in ap is_list (sym same)

-- only an array is a list of rules
pub is_list-array : (d : json.Data) (r : Rule) → rule_of d ≡ Some r → is_list r ≡ is_array d
is_list-array json.null r h = literal-list (data_of json.null) r h
is_list-array (json.boolean b) r h = literal-list (data_of (json.boolean b)) r h
is_list-array (json.number n) r h = literal-list (data_of (json.number n)) r h
is_list-array (json.string s) r h = literal-list (data_of (json.string s)) r h
is_list-array (json.array ds) r h = list-mapped (rules_from ds) r h
is_list-array (json.object json.no_members) r h = literal-list (data_of (json.object json.no_members)) r h
is_list-array (json.object (json.member k d json.no_members)) r h =
    list-applied k (operator_of k) (arguments_of d) r (sym (rule_of-operator k d) ∙ h)
is_list-array (json.object (json.member k d (json.member l e ms))) r h =
    literal-list (data_of (json.object (json.member k d (json.member l e ms)))) r h

-- ---- which arguments it takes

-- the first one is a list
pairs_alone : (o : Option Rule) (p : Option (List Rule)) (rs : List Rule) →
    ((r : Rule) → o ≡ Some r → is_list r ≡ true) → one_more o p ≡ Some rs
    → is_split (rules_of rs) ≡ is_some (total_of (rules_of rs))
pairs_alone None p rs l e = absurd (cc)
pairs_alone (Some r) None rs l e = absurd (cc)
pairs_alone (Some r) (Some qs) rs l e =
    let same : r ∷ qs ≡ rs = cc in
    subst (λ ss. is_split (rules_of ss) ≡ is_some (total_of (rules_of ss))) same (rw (l r refl) refl)

-- the first one is none
pairs_behind : (r : Rule) (qs : List Rule) → is_list r ≡ false →
    is_split (rules_of (r ∷ qs)) ≡ (is_any (rules_of qs) && is_some (total_of (rules_of qs)))
pairs_behind r qs other = rw other refl

behind_rule : (o : Option Rule) (p : Option (List Rule)) (rs : List Rule) →
    ((r : Rule) → o ≡ Some r → is_list r ≡ false) → one_more o p ≡ Some rs
    → (r : Rule) × (qs : List Rule) × (o ≡ Some r) × (p ≡ Some qs) ×
    (is_split (rules_of rs) ≡ (is_any (rules_of qs) && is_some (total_of (rules_of qs))))
behind_rule None p rs l e = absurd (cc)
behind_rule (Some r) None rs l e = absurd (cc)
behind_rule (Some r) (Some qs) rs l e =
    let same : r ∷ qs ≡ rs = cc in
    (r, qs, refl, refl, ap (λ ss. is_split (rules_of ss)) (sym same) ∙ pairs_behind r qs (l r refl))

and-false : (b : Bool) → (b && false) ≡ false
and-false true = refl
and-false false = refl

any_of : (qs : List Rule) → (length qs ≡ 0 → ⊥) → is_any (rules_of qs) ≡ true
any_of [] h = absurd (h refl)
any_of (q ∷ qs) h = refl

none_of : (qs : List Rule) → length qs ≡ 0 → is_any (rules_of qs) ≡ false
none_of [] h = refl
none_of (q ∷ qs) h = absurd (omega (arith, h))

module _ {ts xs : List Tree} {x : Tree} (e : ts ≡ x ∷ xs) where
  all_rules : {rs : List Rule} → rules_from (tree_items ts) ≡ Some rs →
      one_more (rule_of (tree_view x)) (rules_from (tree_items xs)) ≡ Some rs
  all_rules h = ap (λ us. rules_from (tree_items us)) (sym e) ∙ h

  -- pairs alone
  module _ (array : is_array (tree_view x) ≡ true) where
    all_pairs : (rs : List Rule) → rules_from (tree_items ts) ≡ Some rs → is_split (rules_of rs) ≡ is_some (total_of (rules_of rs))
    all_pairs rs h = pairs_alone (rule_of (tree_view x)) (rules_from (tree_items xs)) rs
        (λ r f. is_list-array (tree_view x) r f ∙ array) (all_rules h)

    pub split_alone : (P : Rule → Type 0) {M : List Rule → Type 0} (b : Bool) → CompileSplit b M (tree_items ts) →
        ((rs : List Rule) → M rs → P (apply Fractional (rules_of rs)))
        → Applies b Fractional P (tree_items ts)
    split_alone P true y f = record {
      rules = y.rules;
      are_rules = y.are_rules;
      known = y.known;
      made = (all_pairs y.rules y.are_rules ∙ y.made.0, f y.rules y.made.1);
    }
    split_alone P false none f = λ h rs g. all_pairs rs g ∙ ap is_some (none rs g)

  -- pairs behind a bucketing rule
  module _ (other : is_array (tree_view x) ≡ false) where
    bucketing : (rs : List Rule) → rules_from (tree_items ts) ≡ Some rs
        → (r : Rule) × (qs : List Rule) × (rule_of (tree_view x) ≡ Some r) × (rules_from (tree_items xs) ≡ Some qs)
        × (is_split (rules_of rs) ≡ (is_any (rules_of qs) && is_some (total_of (rules_of qs))))
    bucketing rs h = behind_rule (rule_of (tree_view x)) (rules_from (tree_items xs)) rs
        (λ r f. is_list-array (tree_view x) r f ∙ other) (all_rules h)

    -- there is none
    pub split_none : length xs ≡ 0 → (rs : List Rule) → rules_from (tree_items ts) ≡ Some rs → is_split (rules_of rs) ≡ false
    split_none none rs h =
        let y = bucketing rs h in
        let l = rules_from-length xs y.1 y.3 in
        y.4 ∙ ap (λ b. b && is_some (total_of (rules_of y.1))) (none_of y.1 (omega (arith, l, none)))

    -- what is behind are no pairs
    pub split_bad : ((qs : List Rule) → rules_from (tree_items xs) ≡ Some qs → total_of (rules_of qs) ≡ None)
        → (rs : List Rule) → rules_from (tree_items ts) ≡ Some rs → is_split (rules_of rs) ≡ false
    split_bad bad rs h =
        let y = bucketing rs h in
        y.4 ∙ ap (λ b. is_any (rules_of y.1) && b) (ap is_some (bad y.1 y.3)) ∙ and-false (is_any (rules_of y.1))

    pub split_behind : (P : Rule → Type 0) (b : Bool) (t : Rules) → (length xs ≡ 0 → ⊥) →
        option_map rules_of (rules_from (tree_items xs)) ≡ Some t
        → items_unknown (tree_items xs) ≡ None → is_some (total_of t) ≡ true →
        Compiles b (λ r. P (apply Fractional (rule r t))) (tree_view x)
        → Applies b Fractional P (tree_items ts)
    split_behind P true t any pairs known total y =
        let qs = mapped rules_of (rules_from (tree_items xs)) t pairs in
        let l = rules_from-length xs qs.0 qs.1 in
        let behind : AreCompiled (λ rs. rs ≡ qs.0) (tree_items xs) =
        record { rules = qs.0; are_rules = qs.1; known = known; made = refl } in
        let split : is_split (rules_of (y.rule ∷ qs.0)) ≡ true =
        pairs_behind y.rule qs.0 (is_list-array (tree_view x) y.rule y.is_rule ∙ other)
        ∙ ap (λ c. c && is_some (total_of (rules_of qs.0))) (any_of qs.0 (λ none. any (omega (arith, l, none)))) ∙
        ap (λ u. is_some (total_of u)) qs.2 ∙ total in
        same-items _ true (ap tree_items (sym e))
        (both-compiled y behind (split, subst (λ u. P (apply Fractional (rule y.rule u))) (sym qs.2) y.made))
    split_behind P false t any pairs known total none = λ h rs g.
        let y = bucketing rs g in
        let unknown = both-known (first_unknown (tree_view x)) (items_unknown (tree_items xs))
        (ap (λ us. items_unknown (tree_items us)) (sym e) ∙ h) in
        absurd (none-some y.0 (sym (none unknown.0) ∙ y.2))
