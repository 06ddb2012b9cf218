-- What no instruction is needed for: constants, and paths that are known.
use Rattle.std.proofs.Common.{◌≡◌, ◌≢◌, ◌<◌, ◌^◌, ℕ, ℤ, List, [], ◌∷◌, ◌++◌, length, map, get_or, Bool, true, false}
use Rattle.std.proofs.Common.{not, codes, Option, Some, None, option_and_then, refl, sym, ap, ◌∙◌, subst, arith}
use Rattle.std.proofs.Common.{if◌then◌else◌}
use Rattle.std.proofs.Math.Seq.{get_or-append_seam}
use Rattle.std.proofs.lemmas.List.{append_assoc, append-nil, length-map, length-append, map-append, get_or_append_left}
use Rattle.std.specs.Prelude.{bytes_eq}
use Rattle.serde_json.specs.Data as json
use Rattle.serde_json.specs.Find.{as_str}
use Rattle.fp_base.specs.TreeView.{Entry, tree_view, tree_items, tree_members}
use Rattle.fp_base.specs.declared.tree.Tree.{Tree}
use Rattle.fp_operators.specs.Data.{Data, null, boolean, whole, text, list, object}
use Rattle.fp_operators.specs.FromJson.{data_of}
use Rattle.fp_operators.specs.Path.{at_text, found_or}
use Rattle.fp_operators.specs.View.{view}
use Rattle.fp_operators.specs.declared.datum.Datum.{Datum}
use Rattle.fp_targeting.specs.Compile.{first_unknown, items_unknown, rule_of, rules_from}
use Rattle.fp_targeting.specs.Compiles.{IsCompiled, AreCompiled, is_plain}
use Rattle.fp_machine.specs.Constant.{constant}
use Rattle.fp_targeting.specs.Literal.{whole_in}
use Rattle.fp_targeting.specs.Emits.{Has, Pushed, Stands, IsPlaced, IsOperand, Adds, Finds}
use Rattle.fp_machine.specs.Machine.{Env, Turn, text_bytes, run, found_at}
use Rattle.fp_machine.specs.Operators.{operator_of}
use Rattle.fp_machine.specs.Reading.{in_order, reads, read}
use Rattle.fp_machine.specs.Rule as tree
use Rattle.fp_machine.specs.Rule.{Rule, Rules, no_rules, rule}
use Rattle.fp_machine.specs.Stack.{onto}
use Rattle.fp_machine.specs.declared.code.Code.{Code}
use Rattle.fp_machine.specs.declared.operator.Operator.{Operator}
use Rattle.fp_machine.specs.declared.code.Operand.TheVariants.{Constant, Variable}
use Rattle.fp_machine.specs.declared.code.Step.TheVariants.{LoadWhole, FindVariable}
use Rattle.fp_machine.specs.declared.operator.Operator.TheVariants.{Var}
use Rattle.fp_targeting.proofs.Written.{written}
use Rattle.fp_targeting.proofs.Constants.{meaning-constant, items_unknown-literals, rule_of-literal, rule_of-literals}
use Rattle.fp_targeting.proofs.Frugal.{pushed-frugal, as-frugal}
use Rattle.fp_targeting.proofs.Emitting.{grows-trans, grows-itself, pushed-has, pushed-few, pushed-grows, pushed-run, pushed-read}
use Rattle.fp_targeting.proofs.Parts.{last-item}

-- a datum that is put behind what is there
pub datum-pushed : (xs ys : List Datum) (x : Datum) (d : Data) → ys ≡ xs ++ x ∷ [] → view x ≡ d → map view ys ≡ map view xs ++ d ∷ []
datum-pushed xs ys x d pushed e = ap (map view) pushed ∙ map-append view xs (x ∷ []) ∙ ap (λ f. map view xs ++ f ∷ []) e

-- ---- values that stand for themselves

pub rule_of-plain : (d : json.Data) → is_plain d ≡ true → rule_of d ≡ Some (constant (data_of d))
rule_of-plain json.null h = refl
rule_of-plain (json.boolean b) h = refl
rule_of-plain (json.number n) h = rule_of-literal (json.number n) refl
rule_of-plain (json.string s) h = refl
rule_of-plain (json.array ds) h = rule_of-literals ds h
rule_of-plain (json.object json.no_members) h = refl
rule_of-plain (json.object (json.member k d json.no_members)) h = absurd (cc)
rule_of-plain (json.object (json.member k d (json.member l e ms))) h = refl

pub known-plain : (d : json.Data) → is_plain d ≡ true → first_unknown d ≡ None
known-plain json.null h = refl
known-plain (json.boolean b) h = refl
known-plain (json.number n) h = refl
known-plain (json.string s) h = refl
known-plain (json.array ds) h = items_unknown-literals ds h
known-plain (json.object json.no_members) h = refl
known-plain (json.object (json.member k d json.no_members)) h = absurd (cc)
known-plain (json.object (json.member k d (json.member l e ms))) h = refl

-- ---- places in the pool

-- a datum that stands there already
module _ {m n : ℕ} {d : Data} {a : Code} (x : Stands m d a.pool.items) (same : m < 2 ^ 16 → n ≡ m) where
  stands-small : (env : Env) → Has env a → m < 2 ^ 16
  stands-small env h =
      let l = ap length h.pool ∙ length-append (map view a.pool.items) h.more in
      omega (arith, x.within, l, length-map a.pool.items view, h.fits)

  pub stands-placed : IsPlaced n d a a
  stands-placed = record {
    grows = grows-itself a;
    steps = refl;
    room = refl;
    few = omega arith;
    is = λ env h.
        ap (λ k. get_or env.pool k null) (same (stands-small env h))
        ∙ ap (λ ds. get_or ds m null) h.pool
        ∙ get_or_append_left (map view a.pool.items) h.more null m (omega (arith, x.within, length-map a.pool.items view))
        ∙ x.is;
  }

-- a datum is behind those that were in the pool, and no instruction is added
pub record Pooled (d : Data) (a b : Code) : Type 0 where
  pub steps : b.steps ≡ a.steps
  pub pool : map view b.pool.items ≡ map view a.pool.items ++ d ∷ []
  pub room : b.room ≡ a.room

module _ {n : ℕ} {d : Data} {a b : Code} (x : Pooled d a b) (same : length a.pool.items < 2 ^ 16 → n ≡ length a.pool.items) where
  pooled-env : (env : Env) (h : Has env b) → env.pool ≡ map view a.pool.items ++ d ∷ h.more
  pooled-env env h = h.pool ∙ ap (λ ds. ds ++ h.more) x.pool ∙ append_assoc (map view a.pool.items) (d ∷ []) h.more

  pooled-small : (env : Env) → Has env b → length a.pool.items < 2 ^ 16
  pooled-small env h =
      let l = ap length (pooled-env env h) ∙ length-append (map view a.pool.items) (d ∷ h.more) in
      omega (arith, l, length-map a.pool.items view, h.fits)

  pub pooled-placed : IsPlaced n d a b
  pooled-placed = record {
    grows = record {
      more = [];
      steps = ap (λ v. v.items) x.steps ∙ sym (append-nil a.steps.items);
      within = λ env h. record { more = d ∷ h.more; pool = pooled-env env h; fits = h.fits; room = omega (arith, h.room, x.room) };
    };
    steps = x.steps;
    room = x.room;
    few =
        let l = ap length x.pool ∙ length-append (map view a.pool.items) (d ∷ []) in
        omega (arith, l, length-map a.pool.items view, length-map b.pool.items view);
    is = λ env h.
        ap (λ k. get_or env.pool k null) (same (pooled-small env h) ∙ sym (length-map a.pool.items view))
        ∙ ap (λ ds. get_or ds (length (map view a.pool.items)) null) (pooled-env env h)
        ∙ get_or-append_seam (map view a.pool.items) d h.more null;
  }

pub operand-constant : {n : ℕ} {d : Data} {a b : Code} → IsPlaced n d a b → IsOperand (Constant n) (constant d) a b
operand-constant {d = d} x = record {
  grows = x.grows;
  steps = x.steps;
  room = x.room;
  few = x.few;
  looks = λ env h root v. x.is env h ∙ sym (meaning-constant root d);
  reads = λ env h t. ap (λ e. (constant e, t)) (x.is env h);
}

-- what a known path names
pub operand-variable : {n : ℕ} {p : List ℕ} {a b : Code} → IsPlaced n (text p) a b →
    IsOperand (Variable n) (tree.apply Var (rule (tree.literal (text p)) no_rules)) a b
operand-variable x = record {
  grows = x.grows;
  steps = x.steps;
  room = x.room;
  few = x.few;
  looks = λ env h root v. ap (λ d. found_or null (at_text (text_bytes d) root)) (x.is env h);
  reads = λ env h t. ap (λ d. (tree.apply Var (rule (tree.literal (text (text_bytes d))) no_rules), t)) (x.is env h);
}

pub finds-known : {n skip h : ℕ} {p : List ℕ} {a b d : Code} → IsPlaced n (text p) a b →
    Pushed (FindVariable n skip) b d → Finds skip h (tree.literal (text p)) a d
finds-known {n = n} {skip = skip} {p = p} {a = a} x f = record {
  grows = grows-trans x.grows (pushed-grows f);
  few = omega (arith, x.few, pushed-few f);
  runs = λ env e root v s _.
      pushed-run f env root v s ∙ ap (λ cs. run env root (FindVariable n skip ∷ cs) 0 v s) (ap (λ xs. onto xs.items []) x.steps)
      ∙ ap (λ g. option_and_then (λ (t : Turn). run env root (in_order a) t.0 t.1 t.2)
      (found_at skip s (at_text (text_bytes g) root))) (x.is env (pushed-has f env e));
  reads = λ env e t.
      pushed-read f env t ∙ ap (λ cs. read env cs (reads env (FindVariable n skip) t)) (ap (λ xs. onto xs.items []) x.steps)
      ∙ ap (λ g. read env (in_order a) (tree.literal (text (text_bytes g)) ∷ t)) (x.is env (pushed-has f env e));
  frugal = λ none deep old. pushed-frugal f refl (as-frugal x.steps x.room old);
}

whole-constant : (d : Data) (z : ℤ) → whole_in d ≡ Some z → tree.literal (whole z) ≡ constant d
whole-constant null z h = absurd (cc)
whole-constant (boolean b) z h = absurd (cc)
whole-constant (whole y) z h = let e : y ≡ z = cc in ap (λ w. tree.literal (whole w)) (sym e)
whole-constant (text s) z h = absurd (cc)
whole-constant (list ds) z h = absurd (cc)
whole-constant (object ms) z h = absurd (cc)

-- a number in its instruction
added-whole : {z : ℤ} {a b : Code} (h : ℕ) → Pushed (LoadWhole z) a b → Adds h (tree.literal (whole z)) a b
added-whole h p = record {
  grows = pushed-grows p;
  few = omega (arith, pushed-few p);
  runs = λ env e root v s _. pushed-run p env root v s;
  reads = λ env e t. pushed-read p env t;
  frugal = λ none deep f. pushed-frugal p refl f;
}

pub compiled-number : (d : json.Data) (z : ℤ) {a b : Code} → is_plain d ≡ true → whole_in (data_of d) ≡ Some z →
    Pushed (LoadWhole z) a b → (h : ℕ)
    → IsCompiled (λ r. Adds h r a b) d
compiled-number d z {a = a} {b = b} plain e p h = record {
  rule = constant (data_of d);
  is_rule = rule_of-plain d plain;
  known = known-plain d plain;
  made = subst (λ r. Adds h r a b) (whole-constant (data_of d) z e) (added-whole h p);
}

-- ---- arguments

-- a text alone
pub only-text : (ts : List Tree) (t : Tree) (s : List ℕ) → length ts ≡ 1 → t ≡ get_or ts 0 t →
    as_str (tree_view t) ≡ Some s → tree_items ts ≡ json.item (json.string s) json.no_items
only-text ts t s l is e = ap tree_items (last-item ts 0 t l is) ∙ ap (λ d. json.item d json.no_items) (written (tree_view t) s e)

pub compiled-text : {Made : List Rule → Type 0} (ds : json.Items) (s : List ℕ) →
    ds ≡ json.item (json.string s) json.no_items → Made (tree.literal (text s) ∷ []) → AreCompiled Made ds
compiled-text ds s e made = record
    { rules = tree.literal (text s) ∷ []; are_rules = ap rules_from e; known = ap items_unknown e; made = made }

-- ---- an operator's object

named_if : (b : Bool) (o : Option Operator) → false ≡ not b → (if b then Some Var else o) ≡ Some Var
named_if true o h = refl
named_if false o h = absurd (cc)

pub named-var : (name : List ℕ) → false ≡ not (bytes_eq name (codes "var")) → operator_of name ≡ Some Var
named-var name h = named_if (bytes_eq name (codes "var")) _ h

-- members of which there are none or several
pub others-plain : (ms : List Entry) → length ms ≢ 1 → is_plain (json.object (tree_members ms)) ≡ true
others-plain [] h = refl
others-plain (x ∷ []) h = absurd (h refl)
others-plain (x ∷ y ∷ ms) h = refl
