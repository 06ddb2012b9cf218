-- Code of operators that don't look at all their arguments: what is added for the arguments.
use Rattle.std.proofs.Common.{◌≡◌, ◌≤◌, ◌-◌, ℕ, List, [], ◌∷◌, length, Bool, true, false, Option, Some, None}
use Rattle.std.proofs.Common.{option_and_then, refl, ap, ◌∙◌, arith, if◌then◌else◌}
use Rattle.fp_operators.specs.Data.{Data, null}
use Rattle.fp_operators.specs.Path.{found_or, named_by}
use Rattle.fp_operators.specs.Truth.{truth}
use Rattle.fp_targeting.specs.Emits.{Pushed, Adds, Decides, Finds}
use Rattle.fp_machine.specs.Machine.{Env, run, found_at}
use Rattle.fp_machine.specs.Meaning.{meaning, meanings, value_at, value_of_operator, value_behind_true, first_false, first_true}
use Rattle.fp_machine.specs.Reading.{read, in_order}
use Rattle.fp_machine.specs.Rule as tree
use Rattle.fp_machine.specs.Rule.{Rule, Rules, no_rules, rule}
use Rattle.fp_machine.specs.Stack.{onto}
use Rattle.fp_targeting.specs.Strict.{stops, skip_past, looks_at_results}
use Rattle.fp_machine.specs.View.{rules_of}
use Rattle.fp_machine.specs.declared.code.Code.{Code}
use Rattle.fp_machine.specs.declared.code.Step.{Step}
use Rattle.fp_machine.specs.declared.operator.Operator.{Operator}
use Rattle.fp_machine.specs.declared.code.Step.TheVariants.{LoadNull, Skip, SkipIfFalse, SkipIfTrue, Find, End}
use Rattle.fp_machine.specs.declared.operator.Operator.TheVariants.{If, And, Or, Var, Cat, SemVer, Fractional, Unary, Binary, Chain}
use Rattle.fp_targeting.proofs.Frugal.{pushed-frugal, first-none, others-none, first-deep, others-deep}
use Rattle.fp_targeting.proofs.Emitting.{grows-trans, grows-skip, pushed-has, pushed-few, pushed-grows, pushed-run, pushed-read, all-last}
use Rattle.fp_machine.proofs.OneResult.{either_way}

value-results : (o : Operator) (root : Data) (rs : Rules) (ds : List Data) → looks_at_results o ≡ true →
    value_of_operator o root ds ≡ value_at o root rs ds
value-results If root rs ds h = refl
value-results And root rs ds h = refl
value-results Or root rs ds h = refl
value-results Var root rs ds h = refl
value-results Cat root rs ds h = refl
value-results SemVer root rs ds h = refl
value-results Fractional root rs ds h = absurd (cc)
value-results (Unary o) root rs ds h = refl
value-results (Binary o) root rs ds h = refl
value-results (Chain o) root rs ds h = refl

-- an operator whose arguments end
pub added-decided : {o : Operator} {h n : ℕ} {rs : List Rule} {a b d : Code} → looks_at_results o ≡ true →
    Pushed (End o n) a b → Decides o h rs b d → n ≡ length rs
    → Adds h (tree.apply o (rules_of rs)) a d
added-decided {o = o} {n = n} {rs = rs} {a = a} looks p x same = record {
  grows = grows-trans (pushed-grows p) x.grows;
  few = omega (arith, pushed-few p, x.few);
  runs = λ env e root v s l.
      x.runs env e root v s l ∙ pushed-run p env root (value_of_operator o root (meanings root (rules_of rs))) s
      ∙ ap (λ w. run env root (in_order a) 0 w s) (value-results o root (rules_of rs) (meanings root (rules_of rs)) looks);
  reads = λ env e t. x.reads env e t ∙ pushed-read p env (onto rs t) ∙
      ap (read env (in_order a)) (all-last (λ qs. tree.apply o (rules_of qs)) n rs t same);
  frugal = λ none deep f. x.frugal none deep (pushed-frugal p refl f);
}

-- ---- `and`, `or`

and-last : {h : ℕ} {r : Rule} {a b : Code} → Adds h r a b → Decides And h (r ∷ []) a b
and-last {r = r} {a = a} x = record {
  grows = x.grows;
  few = omega (arith, x.few);
  runs = λ env e root v s l. x.runs env e root v s l ∙
      ap (λ w. run env root (in_order a) 0 w s) (either_way (truth (meaning root r)) (meaning root r));
  reads = x.reads;
  frugal = λ none deep f. x.frugal (first-none r no_rules none) (first-deep _ And r no_rules deep) f;
}

or-last : {h : ℕ} {r : Rule} {a b : Code} → Adds h r a b → Decides Or h (r ∷ []) a b
or-last {r = r} {a = a} x = record {
  grows = x.grows;
  few = omega (arith, x.few);
  runs = λ env e root v s l. x.runs env e root v s l ∙
      ap (λ w. run env root (in_order a) 0 w s) (either_way (truth (meaning root r)) (meaning root r));
  reads = x.reads;
  frugal = λ none deep f. x.frugal (first-none r no_rules none) (first-deep _ Or r no_rules deep) f;
}

module _ (env : Env) (root : Data) (cs ds : List Step) (s : List Data) (j k : ℕ) where
  by_condition : (b : Bool) (m x y : Data) → run env root cs j m s ≡ run env root ds 0 x s → run env root cs k m s ≡ run env root ds 0 y s
      → run env root cs (if b then j else k) m s ≡ run env root ds 0 (if b then x else y) s
  by_condition true m x y on off = on
  by_condition false m x y on off = off

and-more : {h n : ℕ} {r q : Rule} {rs : List Rule} {a b c d : Code} → Decides And h (q ∷ rs) a b → Pushed (SkipIfFalse n) b c
    → n ≡ length b.steps.items - length a.steps.items → Adds h r c d → Decides And h (r ∷ q ∷ rs) a d
and-more {n = n} {r = r} {q = q} {rs = rs} {a = a} {b = b} x p skips y = record {
  grows = grows-trans x.grows (grows-trans (pushed-grows p) y.grows);
  few = omega (arith, x.few, pushed-few p, y.few);
  runs = λ env e root v s l.
      let ec = y.grows.within env e in
      let m = meaning root r in
      y.runs env e root v s l ∙ pushed-run p env root m s
      ∙ by_condition env root (in_order b) (in_order a) s 0 n (truth m) m (first_false m (meanings root (rules_of (q ∷ rs)))) m
      (x.runs env (pushed-has p env ec) root m s l) (grows-skip x.grows n skips env root m s);
  reads = λ env e t.
      let ec = y.grows.within env e in
      y.reads env e t ∙ pushed-read p env (r ∷ t) ∙ x.reads env (pushed-has p env ec) (r ∷ t);
  frugal = λ none deep f. let qs = rules_of (q ∷ rs) in
      y.frugal (first-none r qs none) (first-deep _ And r qs deep)
      (pushed-frugal p refl (x.frugal (others-none r qs none) (others-deep _ And r qs deep) f));
}

or-more : {h n : ℕ} {r q : Rule} {rs : List Rule} {a b c d : Code} → Decides Or h (q ∷ rs) a b → Pushed (SkipIfTrue n) b c
    → n ≡ length b.steps.items - length a.steps.items → Adds h r c d → Decides Or h (r ∷ q ∷ rs) a d
or-more {n = n} {r = r} {q = q} {rs = rs} {a = a} {b = b} x p skips y = record {
  grows = grows-trans x.grows (grows-trans (pushed-grows p) y.grows);
  few = omega (arith, x.few, pushed-few p, y.few);
  runs = λ env e root v s l.
      let ec = y.grows.within env e in
      let m = meaning root r in
      y.runs env e root v s l ∙ pushed-run p env root m s
      ∙ by_condition env root (in_order b) (in_order a) s n 0 (truth m) m m (first_true m (meanings root (rules_of (q ∷ rs))))
      (grows-skip x.grows n skips env root m s) (x.runs env (pushed-has p env ec) root m s l);
  reads = λ env e t.
      let ec = y.grows.within env e in
      y.reads env e t ∙ pushed-read p env (r ∷ t) ∙ x.reads env (pushed-has p env ec) (r ∷ t);
  frugal = λ none deep f. let qs = rules_of (q ∷ rs) in
      y.frugal (first-none r qs none) (first-deep _ Or r qs deep)
      (pushed-frugal p refl (x.frugal (others-none r qs none) (others-deep _ Or r qs deep) f));
}

-- ---- operators that stop

pub last-decides : {h : ℕ} {r : Rule} {a b : Code} (o : Operator) → stops o ≡ true → Adds h r a b → Decides o h (r ∷ []) a b
last-decides If e x = absurd (cc)
last-decides And e x = and-last x
last-decides Or e x = or-last x
last-decides Var e x = absurd (cc)
last-decides Cat e x = absurd (cc)
last-decides SemVer e x = absurd (cc)
last-decides Fractional e x = absurd (cc)
last-decides (Unary o) e x = absurd (cc)
last-decides (Binary o) e x = absurd (cc)
last-decides (Chain o) e x = absurd (cc)

more_decides : {h n : ℕ} {r q : Rule} {rs : List Rule} {a b c d : Code} (o : Operator) → stops o ≡ true →
    Decides o h (q ∷ rs) a b → Pushed (skip_past o n) b c
    → n ≡ length b.steps.items - length a.steps.items → Adds h r c d → Decides o h (r ∷ q ∷ rs) a d
more_decides If e x p skips y = absurd (cc)
more_decides And e x p skips y = and-more x p skips y
more_decides Or e x p skips y = or-more x p skips y
more_decides Var e x p skips y = absurd (cc)
more_decides Cat e x p skips y = absurd (cc)
more_decides SemVer e x p skips y = absurd (cc)
more_decides Fractional e x p skips y = absurd (cc)
more_decides (Unary o) e x p skips y = absurd (cc)
more_decides (Binary o) e x p skips y = absurd (cc)
more_decides (Chain o) e x p skips y = absurd (cc)

pub more-decides : {h n : ℕ} {r : Rule} {a b c d : Code} (o : Operator) (rs : List Rule) → stops o ≡ true →
    1 ≤ length rs → Decides o h rs a b → Pushed (skip_past o n) b c
    → n ≡ length b.steps.items - length a.steps.items → Adds h r c d → Decides o h (r ∷ rs) a d
more-decides o [] e any x p skips y = absurd (omega (arith, any))
more-decides o (q ∷ rs) e any x p skips y = more_decides o e x p skips y

-- ---- `if`

pub if-none : {h : ℕ} {a b : Code} → Pushed LoadNull a b → Decides If h [] a b
if-none p = record {
  grows = pushed-grows p;
  few = omega (arith, pushed-few p);
  runs = λ env e root v s l. pushed-run p env root v s;
  reads = λ env e t. pushed-read p env t;
  frugal = λ none deep f. pushed-frugal p refl f;
}

pub if-last : {h : ℕ} {r : Rule} {a b : Code} → Adds h r a b → Decides If h (r ∷ []) a b
if-last {r = r} x = record {
  grows = x.grows;
  few = omega (arith, x.few);
  runs = x.runs;
  reads = x.reads;
  frugal =
      λ none deep f. x.frugal (first-none r no_rules none) (first-deep _ If r no_rules deep) f;
}

pub if-more : {h n k : ℕ} {c r : Rule} {rs : List Rule} {a b d f g i : Code} → Decides If h rs a b → Pushed (Skip n) b d
    → n ≡ length b.steps.items - length a.steps.items → Adds h r d f → Pushed (SkipIfFalse k) f g
    → k ≡ length f.steps.items - length b.steps.items → Adds h c g i → Decides If h (c ∷ r ∷ rs) a i
if-more {n = n} {k = k} {c = c} {r = r} {rs = rs} {a = a} {f = f} x p ends y q skips z = record {
  grows = grows-trans x.grows (grows-trans (pushed-grows p) (grows-trans y.grows (grows-trans (pushed-grows q) z.grows)));
  few = omega (arith, x.few, pushed-few p, y.few, pushed-few q, z.few);
  runs = λ env e root v s l.
      let eg = z.grows.within env e in
      let ef = pushed-has q env eg in
      let ed = y.grows.within env ef in
      let eb = pushed-has p env ed in
      let m = meaning root c in
      z.runs env e root v s l ∙ pushed-run q env root m s
      ∙ by_condition env root (in_order f) (in_order a) s 0 k (truth m) m (meaning root r) (value_behind_true (meanings root (rules_of rs)))
      (y.runs env ef root m s l ∙ pushed-run p env root (meaning root r) s ∙ grows-skip x.grows n ends env root (meaning root r) s)
      (grows-skip (grows-trans (pushed-grows p) y.grows) k skips env root m s ∙ x.runs env eb root m s l);
  reads = λ env e t.
      let eg = z.grows.within env e in
      let ef = pushed-has q env eg in
      let ed = y.grows.within env ef in
      let eb = pushed-has p env ed in
      z.reads env e t ∙ pushed-read q env (c ∷ t) ∙ y.reads env ef (c ∷ t) ∙ pushed-read p env (r ∷ c ∷ t) ∙ x.reads env eb (r ∷ c ∷ t);
  frugal = λ none deep f.
      let qs = rules_of (r ∷ rs) in
      let behind = others-none c qs none in
      let less = others-deep _ If c qs deep in
      let before = x.frugal (others-none r (rules_of rs) behind) (others-deep _ If r (rules_of rs) less) f in
      z.frugal (first-none c qs none) (first-deep _ If c qs deep) (pushed-frugal q refl
      (y.frugal (first-none r (rules_of rs) behind) (first-deep _ If r (rules_of rs) less) (pushed-frugal p refl before)));
}

-- ---- `var`

module _ (env : Env) (root : Data) (cs ds : List Step) (s : List Data) (n : ℕ) where
  found-run : (o : Option Data) (x : Data) → run env root cs 0 null s ≡ run env root ds 0 x s →
      ((d : Data) → run env root cs n d s ≡ run env root ds 0 d s)
      → option_and_then (λ t. run env root cs t.0 t.1 t.2) (found_at n s o) ≡ run env root ds 0 (found_or x o) s
  found-run None x none some = none
  found-run (Some d) x none some = some d

-- a path that is computed
pub finds-computed : {n h : ℕ} {p : Rule} {a b d : Code} → Pushed (Find n) a b → Adds h p b d → Finds n h p a d
finds-computed {p = p} f x = record {
  grows = grows-trans (pushed-grows f) x.grows;
  few = omega (arith, pushed-few f, x.few);
  runs = λ env e root v s l. x.runs env e root v s l ∙ pushed-run f env root (meaning root p) s;
  reads = λ env e t. x.reads env e t ∙ pushed-read f env (p ∷ t);
  frugal = λ none deep old. x.frugal none deep (pushed-frugal f refl old);
}

-- a path alone
pub found-alone : {h : ℕ} {p : Rule} {a c : Code} → Finds 0 h p a c → Decides Var h (p ∷ []) a c
found-alone {p = p} {a = a} x = record {
  grows = x.grows;
  few = omega (arith, x.few);
  runs = λ env e root v s l.
      x.runs env e root v s l
      ∙ found-run env root (in_order a) (in_order a) s 0 (named_by (meaning root p) root) null refl (λ d. refl);
  reads = x.reads;
  frugal = λ none deep f. x.frugal (first-none p no_rules none) (first-deep _ Var p no_rules deep) f;
}

-- a path, and what stands in where it names nothing
pub found-default : {h n : ℕ} {p q : Rule} {a b d : Code} → Adds h q a b →
    n ≡ length b.steps.items - length a.steps.items → Finds n h p b d → Decides Var h (p ∷ q ∷ []) a d
found-default {n = n} {p = p} {q = q} {a = a} {b = b} x skips y = record {
  grows = grows-trans x.grows y.grows;
  few = omega (arith, x.few, y.few);
  runs = λ env e root v s l.
      let eb = y.grows.within env e in
      y.runs env e root v s l
      ∙ found-run env root (in_order b) (in_order a) s n (named_by (meaning root p) root) (meaning root q)
      (x.runs env eb root null s l) (λ d. grows-skip x.grows n skips env root d s);
  reads = λ env e t. y.reads env e t ∙ x.reads env (y.grows.within env e) (p ∷ t);
  frugal = λ none deep f.
      let qs = rule q no_rules in
      let default = first-none q no_rules (others-none p qs none) in
      y.frugal (first-none p qs none) (first-deep _ Var p qs deep)
      (x.frugal default (first-deep _ Var q no_rules (others-deep _ Var p qs deep)) f);
}
