-- Code put together: what is added for a rule's parts makes the code of the rule.
use Rattle.std.proofs.Common.{◌≡◌, ◌≤◌, ◌+◌, ◌-◌, ℕ, List, [], ◌∷◌, ◌++◌, length, map, Bool, true, false, Option, Some}
use Rattle.std.proofs.Common.{None, option_and_then, nat_lt, refl, sym, ap, ◌∙◌, subst, arith, if◌then◌else◌}
use Rattle.std.proofs.lemmas.Bool.{le-leb}
use Rattle.std.proofs.lemmas.List.{append_assoc, append-nil, length-map}
use Rattle.serde_json.specs.Data as json
use Rattle.fp_operators.specs.Data.{Data, null}
use Rattle.fp_operators.specs.Text.{concatenation}
use Rattle.fp_operators.specs.View.{view}
use Rattle.fp_targeting.specs.Compiles.{IsCompiled}
use Rattle.fp_targeting.specs.Emits.{Has, Grows, Pushed, Raised, IsOperand, Adds, AddsAlone, KeepsOne, Keeps}
use Rattle.fp_machine.specs.Frugal.{IsFrugal}
use Rattle.fp_machine.specs.Machine.{Env, Turn, run, look, left_by, list_of}
use Rattle.fp_machine.specs.Meaning.{meaning, meanings}
use Rattle.fp_machine.specs.Memory.{are_literals}
use Rattle.fp_targeting.specs.Places.{places}
use Rattle.fp_machine.specs.Reading.{reads, read, in_order, with_last}
use Rattle.fp_machine.specs.Rule as tree
use Rattle.fp_machine.specs.Rule.{Rule, Rules, no_rules, rule}
use Rattle.fp_machine.specs.Stack.{onto, off}
use Rattle.fp_machine.specs.View.{rules_of}
use Rattle.fp_machine.specs.declared.code.Code.{Code}
use Rattle.fp_machine.specs.declared.code.Operand.{Operand}
use Rattle.fp_machine.specs.declared.code.Step.{Step}
use Rattle.fp_machine.specs.declared.code.Step.TheVariants.{Load, Keep, KeepOf, Join, Collect, Wrap}
use Rattle.fp_machine.specs.declared.operator.Operator.{Operator}
use Rattle.fp_machine.specs.declared.operator.Operator.TheVariants.{Cat}
use Rattle.fp_targeting.proofs.Frugal.{pushed-frugal, operand-frugal, not-false}
use Rattle.fp_machine.proofs.Frugal.{true-false}
use Rattle.fp_machine.proofs.Machines.{skip-over, of_all}
use Rattle.fp_machine.proofs.OneResult.{length-meanings}
use Rattle.fp_targeting.proofs.Parts.{count_of-rules_of}
use Rattle.fp_machine.proofs.Stacks.{onto-append, onto-last, off-onto}

-- a rule takes a place at least
pub one-place : (r : Rule) → 1 ≤ places r
one-place (tree.literal d) = omega arith
one-place (tree.list rs) = omega arith
one-place (tree.apply o rs) = omega arith

-- ---- growing

pub grows-trans : {a b d : Code} → Grows a b → Grows b d → Grows a d
grows-trans {a = a} g h = record {
  more = g.more ++ h.more;
  steps = h.steps ∙ ap (λ xs. xs ++ h.more) g.steps ∙ append_assoc a.steps.items g.more h.more;
  within = λ env e. g.within env (h.within env e);
}

pub grows-itself : (a : Code) → Grows a a
grows-itself a = record { more = []; steps = sym (append-nil a.steps.items); within = λ env e. e }

pub grows-skip : {a b : Code} → Grows a b → (n : ℕ) → n ≡ length b.steps.items - length a.steps.items →
    (env : Env) (root v : Data) (s : List Data)
    → run env root (in_order b) n v s ≡ run env root (in_order a) 0 v s
grows-skip {a = a} {b = b} g n e env root v s =
    let l = ap length g.steps in
    let m = Rattle.std.proofs.lemmas.List.length-append a.steps.items g.more in
    let long : n ≡ length g.more = omega (arith, e, l, m) in
    ap (λ cs. run env root cs n v s) (ap (λ xs. onto xs []) g.steps ∙ onto-append a.steps.items g.more [])
    ∙ skip-over env root g.more (in_order a) n v s long

module _ {a b : Code} {c : Step} (p : Pushed c a b) where
  pushed-order : in_order b ≡ c ∷ in_order a
  pushed-order = ap (λ xs. onto xs []) p.steps ∙ onto-last a.steps.items c []

  pub pushed-has : (env : Env) → Has env b → Has env a
  pushed-has env h = record {
    more = h.more;
    pool = h.pool ∙ ap (λ q. map view q.items ++ h.more) p.pool;
    fits = h.fits;
    room = omega (arith, h.room, p.room);
  }

  pub pushed-few : length b.pool.items ≡ length a.pool.items
  pushed-few = ap (λ q. length q.items) p.pool

  pub pushed-grows : Grows a b
  pushed-grows = record { more = c ∷ []; steps = p.steps; within = pushed-has }

  pub pushed-run : (env : Env) (root v : Data) (s : List Data) → run env root (in_order b) 0 v s ≡ run env root (c ∷ in_order a) 0 v s
  pushed-run env root v s = ap (λ cs. run env root cs 0 v s) pushed-order

  pub pushed-read : (env : Env) (t : List Rule) → read env (in_order b) t ≡ read env (in_order a) (reads env c t)
  pushed-read env t = ap (λ cs. read env cs t) pushed-order

-- ---- operands

module _ {o : Operand} {r : Rule} {a b : Code} (x : IsOperand o r a b) where
  pub operand-order : in_order b ≡ in_order a
  operand-order = ap (λ xs. onto xs.items []) x.steps

  -- what is lent needs no more than to be at hand
  pub added-load : {h : ℕ} {d : Code} → Pushed (Load o) b d → Adds h r a d
  added-load p = record {
    grows = grows-trans x.grows (pushed-grows p);
    few = omega (arith, x.few, pushed-few p, one-place r);
    runs = λ env e root v s _. pushed-run p env root v s ∙ ap (λ cs. run env root cs 0 (look env root v o) s) operand-order
        ∙ ap (λ w. run env root (in_order a) 0 w s) (x.looks env (pushed-has p env e) root v);
    reads = λ env e t. pushed-read p env t ∙ ap (λ cs. read env cs (reads env (Load o) t)) operand-order
        ∙ ap (λ (y : Rule × List Rule). read env (in_order a) (y.0 ∷ y.1)) (x.reads env (pushed-has p env e) t);
    frugal = λ none deep f. pushed-frugal p refl (operand-frugal x f);
  }

-- where nothing was done, what comes next begins there
pub pushed-there : {c : Step} {a b d : Code} → b ≡ a → Pushed c b d → Pushed c a d
pushed-there {c = c} {d = d} e p = subst (λ z. Pushed c z d) e p

pub operand-there : {o : Operand} {r : Rule} {a b d : Code} → b ≡ a → IsOperand o r b d → IsOperand o r a d
operand-there {o = o} {r = r} {d = d} e i = subst (λ z. IsOperand o r z d) e i

-- no instruction was added
pub record Stays (old new : Code) : Type 0 where
  pub grows : Grows old new
  pub few : length new.pool.items ≤ length old.pool.items + 1
  pub order : in_order new ≡ in_order old
  pub frugal : IsFrugal old → IsFrugal new

-- whether an operand was made or not
pub stays : (x : Option Operand) {a b : Code} {d : json.Data} →
    ((o : Operand) → x ≡ Some o → IsCompiled (λ r. IsOperand o r a b) d) → (x ≡ None → b ≡ a) → Stays a b
stays None {a = a} some none =
    subst (Stays a) (sym (none refl))
    (record { grows = grows-itself a; few = omega arith; order = refl; frugal = λ f. f })
stays (Some o) some none = let i = (some o refl).made in
    record { grows = i.grows; few = i.few; order = operand-order i; frugal = λ f. operand-frugal i f }

-- behind two operands that were looked for
pub adds-later : {h : ℕ} {o : Operator} {rs : List Rule} {a b c d : Code} → Stays a b → Stays b c →
    AddsAlone h o rs c d → Adds h (tree.apply o (rules_of rs)) a d
adds-later {o = o} {rs = rs} y z k = let r = tree.apply o (rules_of rs) in let x = k.adds in record {
  grows = grows-trans y.grows (grows-trans z.grows x.grows);
  few = omega (arith, y.few, z.few, k.alone);
  runs = λ env e root v s l. x.runs env e root v s l ∙ ap (λ cs. run env root cs 0 (meaning root r) s) (z.order ∙ y.order);
  reads = λ env e t. x.reads env e t ∙ ap (λ cs. read env cs (r ∷ t)) (z.order ∙ y.order);
  frugal = λ none deep f. x.frugal none deep (z.frugal (y.frugal f));
}

-- ---- what is kept

keep_if : (b : Bool) (env : Env) (root w d : Data) (cs : List Step) (s : List Data) → b ≡ true
    → option_and_then (λ (t : Turn). run env root cs t.0 t.1 t.2) (if b then Some (0, w, d ∷ s) else None) ≡ run env root cs 0 w (d ∷ s)
keep_if true env root w d cs s e = refl
keep_if false env root w d cs s e = absurd (cc)

module _ {a b : Code} {c : Step} {m : ℕ} (k : Raised c m a b) where
  pub raised-has : (env : Env) → Has env b → Has env a
  raised-has env e = record {
    more = e.more;
    pool = e.pool ∙ ap (λ q. map view q.items ++ e.more) k.pool;
    fits = e.fits;
    room = omega (arith, e.room, k.room);
  }

  pub raised-few : length b.pool.items ≡ length a.pool.items
  raised-few = ap (λ q. length q.items) k.pool

  pub raised-grows : Grows a b
  raised-grows = record { more = c ∷ []; steps = k.steps; within = raised-has }

  raised-order : in_order b ≡ c ∷ in_order a
  raised-order = ap (λ xs. onto xs []) k.steps ∙ onto-last a.steps.items c []

  -- there is a place for one more
  raised-place : (env : Env) → Has env b → (s : List Data) → m ≡ length s + 1 → nat_lt (length s) env.room ≡ true
  raised-place env e s l = Rattle.std.proofs.lemmas.Bool.lt-ltb (length s) env.room (omega (arith, l, e.room, k.room))

  pub raised-read : (env : Env) (t : List Rule) → read env (in_order b) t ≡ read env (in_order a) (reads env c t)
  raised-read env t = ap (λ cs. read env cs t) raised-order

-- what is at hand is kept
pub raised-run : {a b : Code} {m : ℕ} (k : Raised Keep m a b) (env : Env) → Has env b → (root v : Data) (s : List Data) → m ≡ length s + 1
    → run env root (in_order b) 0 v s ≡ run env root (in_order a) 0 null (v ∷ s)
raised-run {a = a} k env e root v s l =
    ap (λ cs. run env root cs 0 v s) (raised-order k) ∙
    keep_if (nat_lt (length s) env.room) env root null v (in_order a) s (raised-place k env e s l)

-- where nothing was done, what is kept begins there
pub raised-there : {c : Step} {m : ℕ} {a b d : Code} → b ≡ a → Raised c m b d → Raised c m a d
raised-there {c = c} {m = m} {d = d} e k = subst (λ z. Raised c m z d) e k

-- what an operand is, is kept
pub kept-operand : {h m : ℕ} {o : Operand} {r : Rule} {a b d : Code} → m ≡ h + 1 → IsOperand o r a b →
    Raised (KeepOf o) m b d → KeepsOne h r a d
kept-operand {o = o} {r = r} {a = a} {b = b} up i k = record {
  grows = grows-trans i.grows (raised-grows k);
  few = omega (arith, i.few, raised-few k, one-place r);
  runs = λ env e root v s l. (
    left_by o v,
    ap (λ cs. run env root cs 0 v s) (raised-order k)
        ∙ keep_if (nat_lt (length s) env.room) env root (left_by o v) (look env root v o) (in_order b) s
        (raised-place k env e s (omega (arith, up, l)))
        ∙ ap (λ cs. run env root cs 0 (left_by o v) (look env root v o ∷ s)) (operand-order i)
        ∙ ap (λ w. run env root (in_order a) 0 (left_by o v) (w ∷ s)) (i.looks env (raised-has k env e) root v),
  );
  reads = λ env e t.
      raised-read k env t ∙ ap (λ cs. read env cs (reads env (KeepOf o) t)) (operand-order i)
      ∙ ap (λ (y : Rule × List Rule). read env (in_order a) (y.0 ∷ y.1)) (i.reads env (raised-has k env e) t);
}

-- what is computed is kept
pub kept-computed : {h m : ℕ} {r : Rule} {a b d : Code} → m ≡ h + 1 → Raised Keep m a b → Adds h r b d → KeepsOne h r a d
kept-computed {r = r} up k y = record {
  grows = grows-trans (raised-grows k) y.grows;
  few = omega (arith, raised-few k, y.few);
  runs = λ env e root v s l.
      (null, y.runs env e root v s l ∙ raised-run k env (y.grows.within env e) root (meaning root r) s (omega (arith, up, l)));
  reads = λ env e t. y.reads env e t ∙ raised-read k env (r ∷ t);
}

pub kept-at : (m n : ℕ) {r : Rule} {a b : Code} → m ≡ n → KeepsOne m r a b → KeepsOne n r a b
kept-at m n {r = r} {a = a} {b = b} e x = subst (λ i. KeepsOne i r a b) e x

pub keeps-none : (h : ℕ) (a : Code) → Keeps h [] a a
keeps-none h a = record { grows = grows-itself a; few = omega arith; runs = λ env e root v s l. (v, refl); reads = λ env e t. refl }

pub keeps-more : {h m : ℕ} {r : Rule} {rs : List Rule} {a b d : Code} → m ≡ h + 1 → Keeps m rs a b → KeepsOne h r b d → Keeps h (r ∷ rs) a d
keeps-more {r = r} up x y = record {
  grows = grows-trans x.grows y.grows;
  few = omega (arith, x.few, y.few);
  runs = λ env e root v s l.
      let first = y.runs env e root v s l in
      let others = x.runs env (y.grows.within env e) root first.0 (meaning root r ∷ s) (omega (arith, up, l)) in
      (others.0, first.1 ∙ others.1);
  reads = λ env e t. y.reads env e t ∙ x.reads env (y.grows.within env e) (r ∷ t);
}

length-meanings_of : (root : Data) (rs : List Rule) → length (meanings root (rules_of rs)) ≡ length rs
length-meanings_of root rs = length-meanings root (rules_of rs) ∙ count_of-rules_of rs

pub all-last : (f : List Rule → Rule) (n : ℕ) (rs t : List Rule) → n ≡ length rs → with_last f n (onto rs t) ≡ f rs ∷ t
all-last f n rs t e = ap (λ (p : List Rule × List Rule). f p.0 ∷ p.1)
    (ap (λ i. off i (onto rs t) []) e ∙ off-onto rs t ∙ ap (λ xs. (xs, t)) (append-nil rs))

pub added-join : {h n : ℕ} {rs : List Rule} {a b d : Code} → Pushed (Join n) a b → Keeps h rs b d → n ≡ length rs →
    Adds h (tree.apply Cat (rules_of rs)) a d
added-join {n = n} {rs = rs} {a = a} p k same = record {
  grows = grows-trans (pushed-grows p) k.grows;
  few = omega (arith, pushed-few p, k.few);
  runs = λ env e root v s l.
      let z = k.runs env e root v s l in
      z.1 ∙ pushed-run p env root z.0 (onto (meanings root (rules_of rs)) s)
      ∙ ap (option_and_then (λ t. run env root (in_order a) t.0 t.1 t.2))
      (of_all concatenation n (meanings root (rules_of rs)) s (same ∙ sym (length-meanings_of root rs)));
  reads = λ env e t. k.reads env e t ∙ pushed-read p env (onto rs t) ∙
      ap (read env (in_order a)) (all-last (λ qs. tree.apply Cat (rules_of qs)) n rs t same);
  frugal = λ none deep f. absurd (cc);
}

pub added-collect : {h n : ℕ} {rs : List Rule} {a b d : Code} → Pushed (Collect n) a b → Keeps h rs b d →
    n ≡ length rs → are_literals (rules_of rs) ≡ false
    → Adds h (tree.list (rules_of rs)) a d
added-collect {n = n} {rs = rs} {a = a} p k same other = record {
  grows = grows-trans (pushed-grows p) k.grows;
  few = omega (arith, pushed-few p, k.few);
  runs = λ env e root v s l.
      let z = k.runs env e root v s l in
      z.1 ∙ pushed-run p env root z.0 (onto (meanings root (rules_of rs)) s)
      ∙ ap (option_and_then (λ t. run env root (in_order a) t.0 t.1 t.2))
      (of_all list_of n (meanings root (rules_of rs)) s (same ∙ sym (length-meanings_of root rs)));
  reads = λ env e t. k.reads env e t ∙ pushed-read p env (onto rs t) ∙
      ap (read env (in_order a)) (all-last (λ qs. tree.list (rules_of qs)) n rs t same);
  frugal = λ none deep f. absurd (true-false (not-false (are_literals (rules_of rs)) none) other);
}

-- what is at hand is wrapped, and nothing waits for it
pub added-wrap : {h : ℕ} {r : Rule} {a b d : Code} → Pushed Wrap a b → Adds h r b d → are_literals (rule r no_rules) ≡ false
    → Adds h (tree.list (rule r no_rules)) a d
added-wrap {r = r} p x other = record {
  grows = grows-trans (pushed-grows p) x.grows;
  few = omega (arith, pushed-few p, x.few);
  runs = λ env e root v s l. x.runs env e root v s l ∙ pushed-run p env root (meaning root r) s;
  reads = λ env e t. x.reads env e t ∙ pushed-read p env (r ∷ t);
  frugal = λ none deep f. absurd (true-false (not-false (are_literals (rule r no_rules)) none) other);
}
