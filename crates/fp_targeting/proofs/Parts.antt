-- Parts of a value: which are no rules, what was compiled of each, and lists of few of them.
use Rattle.std.proofs.Common.{◌≡◌, ◌<◌, ◌+◌, ◌-◌, ℕ, List, [], ◌∷◌, length, drop, take, get_or, Bool, true, false}
use Rattle.std.proofs.Common.{Option, Some, None, refl, sym, ap, ◌∙◌, subst, arith}
use Rattle.std.proofs.lemmas.List.{drop_all, take_rest}
use Rattle.serde_json.specs.Data.{Data, Items, no_items, item}
use Rattle.fp_base.specs.TreeView.{tree_view, tree_items}
use Rattle.fp_base.specs.declared.tree.Tree.{Tree}
use Rattle.fp_base.proofs.Turns.{drop-here}
use Rattle.fp_targeting.specs.Compile.{first_of, one_more, first_unknown, items_unknown, rule_of, rules_from}
use Rattle.fp_targeting.specs.Compiles.{IsCompiled, AreCompiled, NoRule, NoRules, Compiles, CompileAll}
use Rattle.fp_machine.specs.Operators.{count_of}
use Rattle.fp_machine.specs.Rule.{Rule}
use Rattle.fp_machine.specs.View.{rules_of}

-- ---- no rules

pub both-known : (x y : Option (List ℕ)) → first_of x y ≡ None → (x ≡ None) × (y ≡ None)
both-known None y h = (refl, h)
both-known (Some n) y h = absurd (cc)

more-of-none : (x : Option Rule) → one_more x None ≡ None
more-of-none None = refl
more-of-none (Some r) = refl

-- one that is no rule leaves no rules
pub no-first : (d : Data) (ds : Items) → NoRule d → NoRules (item d ds)
no-first d ds n h = ap (λ x. one_more x (rules_from ds)) (n (both-known (first_unknown d) (items_unknown ds) h).0)

pub no-others : (d : Data) (ds : Items) → NoRules ds → NoRules (item d ds)
no-others d ds n h = ap (one_more (rule_of d)) (n (both-known (first_unknown d) (items_unknown ds) h).1) ∙ more-of-none (rule_of d)

-- ---- what a truth says

pub compiles-true : {M : Rule → Type 0} {d : Data} (b : Bool) → b ≡ true → Compiles b M d → IsCompiled M d
compiles-true true e x = x
compiles-true false e x = absurd (cc)

pub compiles-false : (M : Rule → Type 0) (d : Data) (b : Bool) → b ≡ false → Compiles b M d → NoRule d
compiles-false M d true e x = absurd (cc)
compiles-false M d false e x = x

pub all-false : (M : List Rule → Type 0) (ds : Items) (b : Bool) → b ≡ false → CompileAll b M ds → NoRules ds
all-false M ds true e x = absurd (cc)
all-false M ds false e x = x

-- ---- what was made makes something else

pub made-into : {M N : Rule → Type 0} (d : Data) (b : Bool) → Compiles b M d →
    ((r : Rule) → rule_of d ≡ Some r → M r → N r) → Compiles b N d
made-into d true x f = record { rule = x.rule; is_rule = x.is_rule; known = x.known; made = f x.rule x.is_rule x.made }
made-into d false x f = x

pub all-made-into : {M N : List Rule → Type 0} (ds : Items) (b : Bool) → CompileAll b M ds →
    ((rs : List Rule) → rules_from ds ≡ Some rs → M rs → N rs) → CompileAll b N ds
all-made-into ds true x f = record { rules = x.rules; are_rules = x.are_rules; known = x.known; made = f x.rules x.are_rules x.made }
all-made-into ds false x f = x

-- the same items, written elsewhere
pub same-items : (M : List Rule → Type 0) {ds es : Items} (b : Bool) → ds ≡ es → CompileAll b M ds → CompileAll b M es
same-items M b e x = subst (CompileAll b M) e x

-- ---- a rule in front of rules

abbrev pub compiled-none : {M : List Rule → Type 0} → M [] → AreCompiled M no_items
compiled-none m = record { rules = []; are_rules = refl; known = refl; made = m }

abbrev pub both-compiled : {M : Rule → Type 0} {N O : List Rule → Type 0} {d : Data} {ds : Items}
    (x : IsCompiled M d) (y : AreCompiled N ds) → O (x.rule ∷ y.rules)
    → AreCompiled O (item d ds)
both-compiled {ds = ds} x y m = record {
  rules = x.rule ∷ y.rules;
  are_rules = ap (λ o. one_more o (rules_from ds)) x.is_rule ∙ ap (one_more (Some x.rule)) y.are_rules;
  known = ap (λ o. first_of o (items_unknown ds)) x.known ∙ y.known;
  made = m;
}

-- what stands behind a rule
abbrev pub in-front : {M : Rule → Type 0} {N : List Rule → Type 0} {d : Data} {ds : Items} → IsCompiled M d →
    AreCompiled N ds → AreCompiled (λ rs. Unit {0}) (item d ds)
in-front x y = both-compiled x y tt

abbrev pub alone : {M : Rule → Type 0} {d : Data} → IsCompiled M d → AreCompiled (λ rs. Unit {0}) (item d no_items)
alone x = in-front x (compiled-none {M = λ rs. Unit {0}} tt)

-- a value in front of which rules stand, or behind which they do
pub compile-before : (O : List Rule → Type 0) (d : Data) {N : List Rule → Type 0} {ds : Items} (b : Bool)
    (y : AreCompiled N ds) → Compiles b (λ r. O (r ∷ y.rules)) d
    → CompileAll b O (item d ds)
compile-before O d true y x = both-compiled x y x.made
compile-before O d {ds = ds} false y n = no-first d ds n

pub compile-behind : (O : List Rule → Type 0) (ds : Items) {M : Rule → Type 0} {d : Data} (b : Bool)
    (x : IsCompiled M d) → CompileAll b (λ rs. O (x.rule ∷ rs)) ds
    → CompileAll b O (item d ds)
compile-behind O ds true x y = both-compiled x y y.made
compile-behind O ds {d = d} false x n = no-others d ds n

pub compile-one : (O : List Rule → Type 0) (d : Data) (b : Bool) → Compiles b (λ r. O (r ∷ [])) d → CompileAll b O (item d no_items)
compile-one O d b x = compile-before O d b (compiled-none {M = λ rs. Unit {0}} tt) x

-- ---- as many rules as values

length_if : (o : Option Rule) (p : Option (List Rule)) (n : ℕ) (rs : List Rule) →
    ((qs : List Rule) → p ≡ Some qs → length qs ≡ n) → one_more o p ≡ Some rs → length rs ≡ 1 + n
length_if None p n rs h e = absurd (cc)
length_if (Some r) None n rs h e = absurd (cc)
length_if (Some r) (Some qs) n rs h e = let l = h qs refl in let same : r ∷ qs ≡ rs = cc in let m = ap length same in omega (arith, l, m)

pub rules_from-length : (ts : List Tree) (rs : List Rule) → rules_from (tree_items ts) ≡ Some rs → length rs ≡ length ts
rules_from-length [] rs e = let same : [] ≡ rs = cc in ap length (sym same)
rules_from-length (t ∷ ts) rs e =
    let l = length_if (rule_of (tree_view t)) (rules_from (tree_items ts)) (length ts) rs (rules_from-length ts) e in omega (arith, l)

pub count_of-rules_of : (rs : List Rule) → count_of (rules_of rs) ≡ length rs
count_of-rules_of [] = refl
count_of-rules_of (r ∷ rs) = let i = count_of-rules_of rs in omega (arith, i)

-- ---- lists of few items

pub last-item : {A : Type 0} (ts : List A) (i : ℕ) (t : A) → length ts ≡ i + 1 → t ≡ get_or ts i t → drop i ts ≡ t ∷ []
last-item ts i t l is = drop-here ts i t (omega (arith, l)) is ∙ ap (λ us. t ∷ us) (drop_all (i + 1) ts (omega (arith, l)))

-- the first one, and the others as a slice has them
pub parted : {A : Type 0} (ts : List A) (t : A) → 0 < length ts → t ≡ get_or ts 0 t → ts ≡ t ∷ take (length ts - 1) (drop 1 ts)
parted ts t any is = drop-here ts 0 t any is ∙ ap (λ us. t ∷ us) (sym (take_rest ts 1))

pub two-items : {A : Type 0} (ts : List A) (a b : A) → length ts ≡ 2 → a ≡ get_or ts 0 a → b ≡ get_or ts 1 b → ts ≡ a ∷ b ∷ []
two-items ts a b l x y = drop-here ts 0 a (omega (arith, l)) x ∙ ap (λ us. a ∷ us) (last-item ts 1 b l y)

pub three-items : {A : Type 0} (ts : List A) (a b c : A) → length ts ≡ 3 → a ≡ get_or ts 0 a → b ≡ get_or ts 1 b →
    c ≡ get_or ts 2 c → ts ≡ a ∷ b ∷ c ∷ []
three-items ts a b c l x y z =
    drop-here ts 0 a (omega (arith, l)) x ∙
    ap (λ us. a ∷ us) (drop-here ts 1 b (omega (arith, l)) y ∙ ap (λ us. b ∷ us) (last-item ts 2 c l z))

-- what is compiled of the last item
pub compile-last : (O : List Rule → Type 0) (ts : List Tree) (i : ℕ) (t : Tree) → length ts ≡ i + 1 → t ≡ get_or ts i t → (b : Bool)
    → Compiles b (λ r. O (r ∷ [])) (tree_view t) → CompileAll b O (tree_items (drop i ts))
compile-last O ts i t l is b x = same-items O b (ap tree_items (sym (last-item ts i t l is))) (compile-one O (tree_view t) b x)
