-- Code that reads no moment gives the same at any two.
use Rattle.std.proofs.Common.{◌≡◌, ℕ, zero, suc, List, [], ◌∷◌, Bool, true, false}
use Rattle.std.proofs.Common.{not, ◌&&◌, Option, Some, None, refl, sym, ap, ◌∙◌, subst, Ordering, is_eq}
use Rattle.std.proofs.Common.{Less, Equal, Greater}
use Rattle.std.specs.Prelude.{bytes_eq, codes, option_and_then, if◌then◌else◌}
use Rattle.std.specs.Ordering.{nat_cmp}
use Rattle.std.specs.Cmp.Lexicographic.{slice_cmp}
use Rattle.std.proofs.lemmas.Map.Text.{is_eq-slice_cmp}
use Rattle.std.proofs.lemmas.Slice.Eq.{bytes_eq-Decides}
use Rattle.fp_operators.specs.Data.{Data, null, object, Members, no_members, member, put}
use Rattle.fp_operators.specs.FromJson.{data_of}
use Rattle.fp_operators.specs.Path.{parts, member_at, follow, at_text, found_or}
use Rattle.fp_machine.specs.Machine.{Env, path_at, look, act, run, Turn}
use Rattle.fp_targeting.specs.RuleData.{flag_data, with_member, rule_data}
use Rattle.fp_machine.specs.Sound.{IsSound}
use Rattle.fp_machine.specs.Reading.{env_of, in_order, rule_of_code}
use Rattle.fp_machine.specs.Stack.{onto}
use Rattle.fp_machine.specs.declared.code.Code.{Code}
use Rattle.fp_machine.specs.Split.{own_key}
use Rattle.fp_machine.specs.declared.code.Operand.{Operand}
use Rattle.fp_machine.specs.declared.code.Operand.TheVariants.{Constant, Variable, All, AtHand}
use Rattle.fp_machine.specs.declared.code.Step.{Step}
use Rattle.fp_machine.specs.declared.code.Step.TheVariants.{Load, LoadNull, LoadWhole, Keep, KeepOf, Skip}
use Rattle.fp_machine.specs.declared.code.Step.TheVariants.{SkipIfFalse, SkipIfTrue, Find, FindVariable, One, Two}
use Rattle.fp_machine.specs.declared.code.Step.TheVariants.{Three, Second, Third, Join, Collect, Split, SplitByOwnKey}
use Rattle.fp_machine.specs.declared.code.Step.TheVariants.{Wrap, End}
use Rattle.fp_targeting.specs.Moment.{IsTimeless}
use Rattle.fp_machine.specs.Moment.{is_of_the_moment, parts_read, path_reads, operand_reads, step_reads, any_reads}
use Rattle.fp_machine.proofs.Frugal.{neither}

-- ---- one member of an object

-- the order of a name and another says whether they are the same
same_name : (name l : List ℕ) (o : Ordering) → slice_cmp nat_cmp name l ≡ o → bytes_eq name l ≡ is_eq o
same_name name l o h = sym (is_eq-slice_cmp name l) ∙ ap is_eq h

itself : (name : List ℕ) → bytes_eq name name ≡ true
itself name = (bytes_eq-Decides name name).1 refl

-- what was put is there
member_at-put : (name : List ℕ) (x : Data) (ms : Members) → member_at name (put name x ms) ≡ Some x
member_at-put name x no_members = rw (itself name) refl
member_at-put name x (member l e ms) = at (slice_cmp nat_cmp name l) refl (member_at-put name x ms)
  where
    at : (o : Ordering) → slice_cmp nat_cmp name l ≡ o → member_at name (put name x ms) ≡ Some x →
        member_at name (put name x (member l e ms)) ≡ Some x
    at Less h there = rw (h, itself name) refl
    at Equal h there = rw (h, same_name name l Equal h) refl
    at Greater h there = rw (h, same_name name l Greater h) there

-- what is put under a name isn't seen under another
member_at-others : (name k : List ℕ) (x y : Data) (ms : Members) → bytes_eq k name ≡ false →
    member_at k (put name x ms) ≡ member_at k (put name y ms)
member_at-others name k x y no_members other = rw other refl
member_at-others name k x y (member l e ms) other = at (slice_cmp nat_cmp name l) refl (member_at-others name k x y ms other)
  where
    at : (o : Ordering) → slice_cmp nat_cmp name l ≡ o → member_at k (put name x ms) ≡ member_at k (put name y ms)
        → member_at k (put name x (member l e ms)) ≡ member_at k (put name y (member l e ms))
    at Less h others = rw (h, other) refl
    at Equal h others = rw (h, subst (λ n. bytes_eq k n ≡ false) ((bytes_eq-Decides name l).0 (same_name name l Equal h)) other) refl
    at Greater h others = rw h (ap (λ m. if bytes_eq k l then Some e else m) others)

-- ---- two data that differ in the moment alone

record Alike (d e : Data) : Type 0 where
  pub paths : (path : List ℕ) → path_reads path ≡ false → at_text path d ≡ at_text path e
  pub key : own_key d ≡ own_key e

module _ (key : List ℕ) (now later : ℕ) (ms : Members) where
  at_flag : (ps : List (List ℕ)) → is_of_the_moment ps ≡ false → follow ps (flag_data key now) ≡ follow ps (flag_data key later)
  at_flag [] h = absurd (cc)
  at_flag (p ∷ ps) h =
      let is : p ≡ codes "flagKey" = (bytes_eq-Decides p (codes "flagKey")).0 (not-false (bytes_eq p (codes "flagKey")) h) in
      rw is refl
    where
      not-false : (b : Bool) → not b ≡ false → b ≡ true
      not-false true h = refl
      not-false false h = absurd (cc)

  abbrev with_flag : ℕ → Data
  with_flag n = object (put (codes "$flagd") (flag_data key n) ms)

  follow-alike : (ps : List (List ℕ)) → parts_read ps ≡ false → follow ps (with_flag now) ≡ follow ps (with_flag later)
  follow-alike [] h = absurd (cc)
  follow-alike (p ∷ ps) h = at (bytes_eq p (codes "$flagd")) refl
    where
      at : (b : Bool) → bytes_eq p (codes "$flagd") ≡ b → follow (p ∷ ps) (with_flag now) ≡ follow (p ∷ ps) (with_flag later)
      at true is =
          let name : p ≡ codes "$flagd" = (bytes_eq-Decides p (codes "$flagd")).0 is in
          let below : is_of_the_moment ps ≡ false = ap (λ b. b && is_of_the_moment ps) (sym is) ∙ h in
          rw (
            name,
            member_at-put (codes "$flagd") (flag_data key now) ms,
            member_at-put (codes "$flagd") (flag_data key later) ms,
          ) (at_flag ps below)
      at false is = ap (option_and_then (follow ps)) (member_at-others (codes "$flagd") p (flag_data key now) (flag_data key later) ms is)

  at_text-alike : (path : List ℕ) → path_reads path ≡ false → at_text path (with_flag now) ≡ at_text path (with_flag later)
  at_text-alike [] h = absurd (cc)
  at_text-alike (b ∷ bs) h = follow-alike (parts (b ∷ bs)) h

  own_key-alike : own_key (with_flag now) ≡ own_key (with_flag later)
  own_key-alike =
      rw (
        member_at-put (codes "$flagd") (flag_data key now) ms,
        member_at-put (codes "$flagd") (flag_data key later) ms,
        member_at-others (codes "$flagd") (codes "targetingKey") (flag_data key now) (flag_data key later) ms refl,
      ) refl

with-alike : (key : List ℕ) (now later : ℕ) (d : Data) →
    Alike (with_member (codes "$flagd") (flag_data key now) d) (with_member (codes "$flagd") (flag_data key later) d)
with-alike key now later (object ms) = record { paths = at_text-alike key now later ms; key = own_key-alike key now later ms }
with-alike key now later d = record { paths = λ path h. refl; key = refl }

-- ---- what instructions do on such data

module _ (env : Env) (d e : Data) (a : Alike d e) where
  look-alike : (v : Data) (o : Operand) → operand_reads env o ≡ false → look env d v o ≡ look env e v o
  look-alike v (Constant n) h = refl
  look-alike v (Variable n) h = ap (found_or null) (a.paths (path_at env n) h)
  look-alike v All h = absurd (cc)
  look-alike v AtHand h = refl

  act-alike : (c : Step) (v : Data) (s : List Data) → step_reads env c ≡ false → act env d c v s ≡ act env e c v s
  act-alike (Load o) v s h = rw (look-alike v o h) refl
  act-alike LoadNull v s h = refl
  act-alike (LoadWhole z) v s h = refl
  act-alike Keep v s h = refl
  act-alike (KeepOf o) v s h = rw (look-alike v o h) refl
  act-alike (Skip n) v s h = refl
  act-alike (SkipIfFalse n) v s h = refl
  act-alike (SkipIfTrue n) v s h = refl
  act-alike (Find n) v s h = absurd (cc)
  act-alike (FindVariable path n) v s h = rw (a.paths (path_at env path) h) refl
  act-alike (One o x) v s h = rw (look-alike v x h) refl
  act-alike (Two o x y) v s h =
      let n = neither (operand_reads env x) (operand_reads env y) h in rw (look-alike v x n.0, look-alike v y n.1) refl
  act-alike (Three o x y) v s h =
      let n = neither (operand_reads env x) (operand_reads env y) h in rw (look-alike v x n.0, look-alike v y n.1) refl
  act-alike (Second o) v s h = refl
  act-alike (Third o) v s h = refl
  act-alike (Join n) v s h = refl
  act-alike (Collect n) v s h = refl
  act-alike Wrap v s h = refl
  act-alike (Split x pairs) v s h = rw (look-alike v x h) refl
  act-alike (SplitByOwnKey pairs) v s h = rw a.key refl
  act-alike (End o n) v s h = refl

  run-alike : (cs : List Step) (n : ℕ) (v : Data) (s : List Data) → any_reads env cs ≡ false → run env d cs n v s ≡ run env e cs n v s
  run-alike [] zero v s h = refl
  run-alike [] (suc n) v s h = refl
  run-alike (c ∷ cs) (suc n) v s h = run-alike cs n v s (neither (step_reads env c) (any_reads env cs) h).1
  run-alike (c ∷ cs) zero v s h =
      let none = neither (step_reads env c) (any_reads env cs) h in
      rw (act-alike c v s none.0) (each (act env e c v s) (λ t. run-alike cs t.0 t.1 t.2 none.1))
    where
      each : {f g : Turn → Option Data} (t : Option Turn) → ((t : Turn) → f t ≡ g t) → option_and_then f t ≡ option_and_then g t
      each None same = refl
      each (Some t) same = same t

-- the order of instructions doesn't matter
any-onto : (env : Env) (cs s : List Step) → any_reads env cs ≡ false → any_reads env s ≡ false → any_reads env (onto cs s) ≡ false
any-onto env [] s h g = g
any-onto env (c ∷ cs) s h g =
    let none = neither (step_reads env c) (any_reads env cs) h in
    any-onto env cs (c ∷ s) none.1 (rw (none.0, g) refl)

some_is : {x y : Data} → Some x ≡ Some y → x ≡ y
some_is h = cc

pub code-timeless : (code : Code) → IsSound code → any_reads (env_of code) code.steps.items ≡ false → IsTimeless (rule_of_code code)
code-timeless code sound h context key now later =
    let none = any-onto (env_of code) code.steps.items [] h refl in
    let one = rule_data context key now in
    let other = rule_data context key later in
    some_is (sym (sound.gives one) ∙
    (run-alike (env_of code) one other (with-alike key now later (data_of context)) (in_order code) 0 null []
    none ∙ sound.gives other))
