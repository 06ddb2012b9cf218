-- What JSON writes is a rule whose operators have arguments that they take.
use Rattle.std.proofs.Common.{◌≡◌, ◌≤◌, ◌^◌, length, ℕ, List, [], ◌∷◌, Bool, true, false, ◌&&◌, Option, Some, None}
use Rattle.std.proofs.Common.{option_map, option_and_then, map, refl, sym, ap, ◌∙◌, subst, arith, if◌then◌else◌}
use Rattle.std.proofs.lemmas.List.{append-nil, length-map}
use Rattle.serde_json.specs.Data as json
use Rattle.serde_json.specs.Data.{depth}
use Rattle.fp_base.specs.Count.{count}
use Rattle.fp_operators.specs.Data.{Data, null}
use Rattle.fp_operators.specs.View.{view}
use Rattle.fp_targeting.specs.Compile.{one_more, operator_rule, rule_of, rules_from}
use Rattle.fp_targeting.specs.Compiles.{IsCompiled}
use Rattle.fp_targeting.specs.Emits.{Has, Adds}
use Rattle.fp_machine.specs.Sound.{IsSound}
use Rattle.fp_machine.specs.Frugal.{any_asks, IsFrugal}
use Rattle.fp_machine.specs.Memory.{needs_memory}
use Rattle.fp_machine.specs.Machine.{Env, run}
use Rattle.fp_machine.specs.Meaning.{meaning}
use Rattle.fp_targeting.specs.Nesting.{nesting}
use Rattle.fp_machine.specs.Operators.{operator_of, allows, well_formed, all_well_formed}
use Rattle.fp_targeting.specs.Places.{places}
use Rattle.fp_machine.specs.Reading.{read, env_of, in_order, last_or, rule_of_code}
use Rattle.fp_machine.specs.Rule as tree
use Rattle.fp_machine.specs.Rule.{Rule, Rules, no_rules, rule}
use Rattle.fp_machine.specs.Stack.{onto}
use Rattle.fp_machine.specs.View.{rules_of}
use Rattle.fp_machine.specs.declared.operator.Operator.{Operator}
use Rattle.fp_machine.specs.declared.code.Code.{Code}
use Rattle.fp_machine.specs.declared.code.Step.{Step}
use Rattle.fp_operators.specs.declared.datum.Datum.{Datum}
use Rattle.fp_machine.specs.Numbers.{DEEPEST_RULE}
use Rattle.fp_targeting.specs.Numbers.{MOST_RULE_VALUES}
use Rattle.fp_targeting.proofs.Nested.{rule_of-nesting}
use Rattle.fp_targeting.proofs.Placing.{rule_of-places}

abbrev AreFormed : Option (List Rule) → Type 0
AreFormed o = (rs : List Rule) → o ≡ Some rs → all_well_formed (rules_of rs) ≡ true

abbrev IsFormed : Option Rule → Type 0
IsFormed o = (r : Rule) → o ≡ Some r → well_formed r ≡ true

both : (a b : Bool) → a ≡ true → b ≡ true → (a && b) ≡ true
both a b h g = rw (h, g) refl

formed-none : AreFormed (Some [])
formed-none rs h = let e : [] ≡ rs = cc in sym (ap (λ qs. all_well_formed (rules_of qs)) e)

formed-more : (o : Option Rule) (q : Option (List Rule)) → IsFormed o → AreFormed q → AreFormed (one_more o q)
formed-more None q f g rs h = absurd (cc)
formed-more (Some r) None f g rs h = absurd (cc)
formed-more (Some r) (Some qs) f g rs h =
    let e : r ∷ qs ≡ rs = cc in
    sym (ap (λ ss. all_well_formed (rules_of ss)) e) ∙ both (well_formed r) (all_well_formed (rules_of qs)) (f r refl) (g qs refl)

formed-list : (q : Option (List Rule)) → AreFormed q → IsFormed (option_map (λ rs. tree.list (rules_of rs)) q)
formed-list None g r h = absurd (cc)
formed-list (Some rs) g r h = let e : tree.list (rules_of rs) ≡ r = cc in sym (ap well_formed e) ∙ g rs refl

formed_if : (b : Bool) (o : Operator) (rs : Rules) → allows o rs ≡ b → all_well_formed rs ≡ true →
    IsFormed (if b then Some (tree.apply o rs) else None)
formed_if true o rs a g r h = let e : tree.apply o rs ≡ r = cc in sym (ap well_formed e) ∙ both (allows o rs) (all_well_formed rs) a g
formed_if false o rs a g r h = absurd (cc)

formed-apply : (n : Option Operator) (q : Option (List Rule)) → AreFormed q
    → IsFormed (option_and_then (λ o. option_and_then
    (λ rs. if allows o (rules_of rs) then Some (tree.apply o (rules_of rs)) else None) q) n)
formed-apply None q g r h = absurd (cc)
formed-apply (Some o) None g r h = absurd (cc)
formed-apply (Some o) (Some rs) g r h = formed_if (allows o (rules_of rs)) o (rules_of rs) refl (g rs refl) r h

formed-operator : (k : List ℕ) (q : Option (List Rule)) → AreFormed q → IsFormed (operator_rule k q)
formed-operator k q g = formed-apply (operator_of k) q g

-- an only argument
one_formed : (k : List ℕ) (d : json.Data) → IsFormed (rule_of d) → IsFormed (operator_rule k (one_more (rule_of d) (Some [])))
one_formed k d f = formed-operator k (one_more (rule_of d) (Some [])) (formed-more (rule_of d) (Some []) f formed-none)

literal_formed : {d : Data} (r : Rule) → Some (tree.literal d) ≡ Some r → well_formed r ≡ true
literal_formed {d = d} r h = let e : tree.literal d ≡ r = cc in sym (ap well_formed e)

mutual
  pub rule_of-formed : (d : json.Data) (r : Rule) → rule_of d ≡ Some r → well_formed r ≡ true
  rule_of-formed json.null r h = literal_formed r h
  rule_of-formed (json.boolean b) r h = literal_formed r h
  rule_of-formed (json.number n) r h = literal_formed r h
  rule_of-formed (json.string s) r h = literal_formed r h
  rule_of-formed (json.array ds) r h = formed-list (rules_from ds) (λ rs e. rules_from-formed ds rs e) r h
  rule_of-formed (json.object json.no_members) r h = literal_formed r h
  rule_of-formed (json.object (json.member k json.null json.no_members)) r h =
      one_formed k json.null (λ q e. rule_of-formed json.null q e) r h
  rule_of-formed (json.object (json.member k (json.boolean b) json.no_members)) r h =
      one_formed k (json.boolean b) (λ q e. rule_of-formed (json.boolean b) q e) r h
  rule_of-formed (json.object (json.member k (json.number n) json.no_members)) r h =
      one_formed k (json.number n) (λ q e. rule_of-formed (json.number n) q e) r h
  rule_of-formed (json.object (json.member k (json.string s) json.no_members)) r h =
      one_formed k (json.string s) (λ q e. rule_of-formed (json.string s) q e) r h
  rule_of-formed (json.object (json.member k (json.array ds) json.no_members)) r h =
      formed-operator k (rules_from ds) (λ rs e. rules_from-formed ds rs e) r h
  rule_of-formed (json.object (json.member k (json.object ms) json.no_members)) r h =
      one_formed k (json.object ms) (λ q e. rule_of-formed (json.object ms) q e) r h
  rule_of-formed (json.object (json.member k d (json.member l e ms))) r h = literal_formed r h

  pub rules_from-formed : (ds : json.Items) (rs : List Rule) → rules_from ds ≡ Some rs → all_well_formed (rules_of rs) ≡ true
  rules_from-formed json.no_items rs h = formed-none rs h
  rules_from-formed (json.item d ds) rs h =
      formed-more (rule_of d) (rules_from ds) (λ q e. rule_of-formed d q e) (λ qs e. rules_from-formed ds qs e) rs h

-- ---- code of a whole rule

-- what was added to code that was none is the rule's, and sound
module _ {r : Rule} {a b : Code} (none : a.steps.items ≡ []) (room : a.room ≡ 0) (empty : a.pool.items ≡ [])
    (few : places r ≤ 2 ^ 16) (deep : nesting r ≤ DEEPEST_RULE) (x : Adds 0 r a b) where
  whole-has : Has (env_of b) b
  whole-has =
      let old = ap length empty in record {
        more = [];
        pool = sym (append-nil (map view b.pool.items));
        fits = omega (arith, x.few, old, few, length-map b.pool.items view);
        room = omega arith;
      }

  pub whole-rule : r ≡ rule_of_code b
  whole-rule = sym (ap (last_or (tree.literal null))
      (x.reads (env_of b) whole-has [] ∙ ap (λ cs. read (env_of b) (onto cs []) (r ∷ [])) none))

  pub whole-sound : well_formed r ≡ true → IsSound b
  whole-sound formed = record {
    formed = sym (ap well_formed whole-rule) ∙ formed;
    gives = λ root. x.runs (env_of b) whole-has root null [] refl ∙ ap (λ cs. run (env_of b) root (onto cs []) 0 (meaning root r) []) none
        ∙ ap (λ q. Some (meaning root q)) whole-rule;
    frugal = λ needs. x.frugal (ap needs_memory whole-rule ∙ needs) (omega (arith, deep))
        (record { room = omega (arith, room); steps = ap any_asks none });
  }

pub compiled-whole : (d : json.Data) (a b : Code) → a.steps.items ≡ [] → a.room ≡ 0 → a.pool.items ≡ [] →
    count d ≤ MOST_RULE_VALUES → depth d ≤ DEEPEST_RULE → IsCompiled (λ r. Adds 0 r a b) d
    → IsCompiled (λ r. (r ≡ rule_of_code b) × IsSound b) d
compiled-whole d a b none room empty counted flat x =
    let few : places x.rule ≤ 2 ^ 16 = omega (arith, counted, rule_of-places d x.rule x.is_rule) in
    let deep : nesting x.rule ≤ DEEPEST_RULE = omega (arith, flat, rule_of-nesting d x.rule x.is_rule) in record {
      rule = x.rule;
      is_rule = x.is_rule;
      known = x.known;
      made = (whole-rule none room empty few deep x.made, whole-sound none room empty few deep x.made (rule_of-formed d x.rule x.is_rule));
    }

-- what a rule is known to be, by the parts of its code
abbrev Whole : Rule → Env → List Step → Type 0
Whole r env cs =
    (r ≡ last_or (tree.literal null) (read env cs []))
    × (well_formed (last_or (tree.literal null) (read env cs [])) ≡ true)
    × ((root : Data) → run env root cs 0 null [] ≡ Some (meaning root (last_or (tree.literal null) (read env cs []))))

abbrev env_at : List Datum → ℕ → Env
env_at pool room = record { pool = map view pool; room = room }

-- code of the same instructions, constants and room
pub shrunk-whole : (d : json.Data) (a b : Code) → b.steps.items ≡ a.steps.items → b.pool.items ≡ a.pool.items → b.room ≡ a.room
    → IsCompiled (λ r. (r ≡ rule_of_code a) × IsSound a) d → IsCompiled (λ r. (r ≡ rule_of_code b) × IsSound b) d
shrunk-whole d a b steps pool room x =
    let r = x.rule in
    let env : env_of a ≡ env_of b = ap (λ p. env_at p a.room) (sym pool) ∙ ap (λ n. env_at b.pool.items n) (sym room) in
    let here : Whole r (env_of a) (in_order a) = (x.made.0, x.made.1.formed, x.made.1.gives) in
    let there : Whole r (env_of b) (in_order b) =
    subst (λ cs. Whole r (env_of b) cs) (ap (λ xs. onto xs []) (sym steps))
    (subst (λ e. Whole r e (in_order a)) env here) in
    let frugal : needs_memory (rule_of_code b) ≡ false → IsFrugal b = λ needs.
    let f = x.made.1.frugal (ap needs_memory (sym x.made.0 ∙ there.0) ∙ needs) in
    record { room = omega (arith, room, f.room); steps = ap any_asks steps ∙ f.steps } in
    record {
      rule = r;
      is_rule = x.is_rule;
      known = x.known;
      made =
          (there.0, record { formed = there.1; gives = there.2; frugal = frugal });
    }
