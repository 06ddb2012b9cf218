-- Code of operators that look at the results of their one to three arguments.
use Rattle.std.proofs.Common.{◌≡◌, ◌≤◌, ◌+◌, ℕ, List, [], ◌∷◌, length, true, false, refl, ap, ◌∙◌, arith}
use Rattle.fp_operators.specs.Data.{Data, null}
use Rattle.fp_targeting.specs.Emits.{Grows, Pushed, IsOperand, Adds, AddsAlone, Has, Raised}
use Rattle.fp_machine.specs.Frugal.{IsFrugal}
use Rattle.fp_machine.specs.Machine.{Env, run, few, look}
use Rattle.fp_machine.specs.Meaning.{meaning, meanings, value_at}
use Rattle.fp_machine.specs.Memory.{needs_memory}
use Rattle.fp_targeting.specs.Nesting.{nesting}
use Rattle.fp_machine.specs.Operators.{takes}
use Rattle.fp_targeting.specs.Places.{places}
use Rattle.fp_machine.specs.Reading.{operand_rule, reads, read, in_order}
use Rattle.fp_machine.specs.Rule as tree
use Rattle.fp_machine.specs.Rule.{Rule, Rules, no_rules, rule}
use Rattle.fp_targeting.specs.Strict.{is_strict}
use Rattle.fp_machine.specs.declared.code.Code.{Code}
use Rattle.fp_machine.specs.declared.code.Operand.{Operand}
use Rattle.fp_machine.specs.declared.operator.Operator.{Operator}
use Rattle.fp_machine.specs.declared.code.Operand.TheVariants.{AtHand}
use Rattle.fp_machine.specs.declared.code.Step.TheVariants.{Keep, One, Two, Three, Second, Third}
use Rattle.fp_machine.specs.declared.operator.Operator.TheVariants.{If, And, Or, Var, Cat, SemVer, Fractional, Unary, Binary, Chain}
use Rattle.fp_machine.specs.Numbers.{DEEPEST_RULE}
use Rattle.fp_targeting.proofs.Frugal.{pushed-frugal, raised-frugal, operand-frugal, itself-none, all-none, first-none}
use Rattle.fp_targeting.proofs.Frugal.{others-none, first-deep, strict-asks}
use Rattle.fp_targeting.proofs.Emitting.{one-place, grows-trans, pushed-has, pushed-few, pushed-grows, pushed-run}
use Rattle.fp_targeting.proofs.Emitting.{pushed-read, operand-order, raised-has, raised-few, raised-grows, raised-run}
use Rattle.fp_targeting.proofs.Emitting.{raised-read}

-- such an operator takes no more than three
pub few-taken : (o : Operator) (n : ℕ) → is_strict o ≡ true → takes o n ≡ true → n ≤ 3
few-taken If n s e = absurd (cc)
few-taken And n s e = absurd (cc)
few-taken Or n s e = absurd (cc)
few-taken Var n s e = absurd (cc)
few-taken Cat n s e = absurd (cc)
few-taken SemVer n s e = grind (arith, e)
few-taken Fractional n s e = absurd (cc)
few-taken (Unary o) n s e = grind (arith, e)
few-taken (Binary o) n s e = grind (arith, e)
few-taken (Chain o) n s e = grind (arith, e)

-- an operator that looks at the results of its arguments alone
value-strict : (o : Operator) (root : Data) (rs : Rules) (ds : List Data) → is_strict o ≡ true → few o ds ≡ value_at o root rs ds
value-strict If root rs ds h = absurd (cc)
value-strict And root rs ds h = absurd (cc)
value-strict Or root rs ds h = absurd (cc)
value-strict Var root rs ds h = absurd (cc)
value-strict Cat root rs ds h = absurd (cc)
value-strict SemVer root rs ds h = refl
value-strict Fractional root rs ds h = absurd (cc)
value-strict (Unary o) root rs ds h = refl
value-strict (Binary o) root rs ds h = refl
value-strict (Chain o) root rs ds h = refl

module _ (o : Operator) (strict : is_strict o ≡ true) where
  -- code that ends with an instruction that gives the operator's result
  strict-adds : {h : ℕ} {rs : Rules} {a d : Code} → Grows a d → length d.pool.items ≤ length a.pool.items + places (tree.apply o rs)
      → ((env : Env) → Has env d → (root v : Data) (s : List Data) → length s ≡ h
      → run env root (in_order d) 0 v s ≡ run env root (in_order a) 0 (few o (meanings root rs)) s)
      → ((env : Env) → Has env d → (t : List Rule) → read env (in_order d) t ≡ read env (in_order a) (tree.apply o rs ∷ t))
      → (needs_memory (tree.apply o rs) ≡ false → h + nesting (tree.apply o rs) ≤ DEEPEST_RULE → IsFrugal a → IsFrugal d)
      → Adds h (tree.apply o rs) a d
  strict-adds {rs = rs} {a = a} g few r q frugal = record {
    grows = g;
    few = few;
    runs = λ env e root v s l. r env e root v s l ∙
        ap (λ w. run env root (in_order a) 0 w s) (value-strict o root rs (meanings root rs) strict);
    reads = q;
    frugal = frugal;
  }

  second-none : (r q : Rule) (rs : Rules) → needs_memory (tree.apply o (rule r (rule q rs))) ≡ false → needs_memory q ≡ false
  second-none r q rs none = first-none q rs (others-none r (rule q rs) (all-none o (rule r (rule q rs)) none))

  third-none : (r q u : Rule) (rs : Rules) → needs_memory (tree.apply o (rule r (rule q (rule u rs)))) ≡ false → needs_memory u ≡ false
  third-none r q u rs none = first-none u rs
      (others-none q (rule u rs) (others-none r (rule q (rule u rs)) (all-none o (rule r (rule q (rule u rs))) none)))

  pub added-one : {h : ℕ} {x : Operand} {r : Rule} {a b d : Code} → IsOperand x r a b → Pushed (One o x) b d →
      Adds h (tree.apply o (rule r no_rules)) a d
  added-one {x = x} {a = a} i p = strict-adds (grows-trans i.grows (pushed-grows p)) (omega (arith, i.few, pushed-few p))
      (λ env e root v s _. pushed-run p env root v s ∙ ap (λ cs. run env root cs 0 (few o (look env root v x ∷ [])) s) (operand-order i)
      ∙ ap (λ w. run env root (in_order a) 0 (few o (w ∷ [])) s) (i.looks env (pushed-has p env e) root v))
      (λ env e t. pushed-read p env t ∙ ap (λ cs. read env cs (reads env (One o x) t)) (operand-order i)
      ∙ ap (λ (y : Rule × List Rule). read env (in_order a) (tree.apply o (rule y.0 no_rules) ∷ y.1)) (i.reads env (pushed-has p env e) t))
      (λ none deep f. pushed-frugal p refl (operand-frugal i f))

  pub added-one-computed : {h : ℕ} {r : Rule} {a b d : Code} → Pushed (One o AtHand) a b → Adds h r b d →
      Adds h (tree.apply o (rule r no_rules)) a d
  added-one-computed {r = r} p x = strict-adds (grows-trans (pushed-grows p) x.grows) (omega (arith, pushed-few p, x.few))
      (λ env e root v s l. x.runs env e root v s l ∙ pushed-run p env root (meaning root r) s)
      (λ env e t. x.reads env e t ∙ pushed-read p env (r ∷ t))
      (λ none deep f. x.frugal (first-none r no_rules (all-none o (rule r no_rules) none))
      (first-deep _ o r no_rules deep) (pushed-frugal p refl f))

  pub added-two : {h : ℕ} {x y : Operand} {r q : Rule} {a b c d : Code} → IsOperand x r a b → IsOperand y q b c → Pushed (Two o x y) c d
      → Adds h (tree.apply o (rule r (rule q no_rules))) a d
  added-two {x = x} {y = y} {r = r} {q = q} {a = a} i j p =
      strict-adds (grows-trans i.grows (grows-trans j.grows (pushed-grows p)))
      (omega (arith, i.few, j.few, pushed-few p))
      (λ env e root v s _. let ec = pushed-has p env e in let eb = j.grows.within env ec in
      pushed-run p env root v s ∙ ap (λ cs. run env root cs 0 (few o (look env root v x ∷ look env root v y ∷ [])) s)
      (operand-order j ∙ operand-order i)
      ∙ ap (λ w. run env root (in_order a) 0 (few o (w ∷ look env root v y ∷ [])) s) (i.looks env eb root v)
      ∙ ap (λ w. run env root (in_order a) 0 (few o (meaning root r ∷ w ∷ [])) s) (j.looks env ec root v))
      (λ env e t. let ec = pushed-has p env e in let eb = j.grows.within env ec in
      pushed-read p env t ∙ ap (λ cs. read env cs (reads env (Two o x y) t)) (operand-order j ∙ operand-order i)
      ∙ ap (λ (z : Rule × List Rule). let w = operand_rule env x z.1 in
      read env (in_order a) (tree.apply o (rule w.0 (rule z.0 no_rules)) ∷ w.1)) (j.reads env ec t)
      ∙ ap (λ (w : Rule × List Rule). read env (in_order a) (tree.apply o (rule w.0 (rule q no_rules)) ∷ w.1)) (i.reads env eb t))
      (λ none deep f. pushed-frugal p refl (operand-frugal j (operand-frugal i f)))

  -- the second one computed
  pub added-two-second : {h : ℕ} {x : Operand} {r q : Rule} {a b c d : Code} → IsOperand x r a b →
      Pushed (Two o x AtHand) b c → Adds h q c d
      → Adds h (tree.apply o (rule r (rule q no_rules))) a d
  added-two-second {x = x} {r = r} {q = q} {a = a} i p k =
      strict-adds (grows-trans i.grows (grows-trans (pushed-grows p) k.grows))
      (omega (arith, i.few, pushed-few p, k.few, one-place r))
      (λ env e root v s l. let eb = pushed-has p env (k.grows.within env e) in
      k.runs env e root v s l ∙ pushed-run p env root (meaning root q) s
      ∙ ap (λ cs. run env root cs 0 (few o (look env root (meaning root q) x ∷ meaning root q ∷ [])) s) (operand-order i)
      ∙ ap (λ w. run env root (in_order a) 0 (few o (w ∷ meaning root q ∷ [])) s) (i.looks env eb root (meaning root q)))
      (λ env e t. let eb = pushed-has p env (k.grows.within env e) in
      k.reads env e t ∙ pushed-read p env (q ∷ t)
      ∙ ap (λ cs. read env cs (reads env (Two o x AtHand) (q ∷ t))) (operand-order i)
      ∙ ap (λ (w : Rule × List Rule). read env (in_order a) (tree.apply o (rule w.0 (rule q no_rules)) ∷ w.1)) (i.reads env eb t))
      (λ none deep f. k.frugal (second-none r q no_rules none) (omega (arith, deep)) (pushed-frugal p refl (operand-frugal i f)))

  -- the first one computed
  pub added-two-first : {h : ℕ} {y : Operand} {r q : Rule} {a b c d : Code} → IsOperand y q a b → Pushed (Two o AtHand y) b c → Adds h r c d
      → Adds h (tree.apply o (rule r (rule q no_rules))) a d
  added-two-first {y = y} {r = r} {q = q} {a = a} j p k =
      strict-adds (grows-trans j.grows (grows-trans (pushed-grows p) k.grows))
      (omega (arith, j.few, pushed-few p, k.few, one-place q))
      (λ env e root v s l. let eb = pushed-has p env (k.grows.within env e) in
      k.runs env e root v s l ∙ pushed-run p env root (meaning root r) s
      ∙ ap (λ cs. run env root cs 0 (few o (meaning root r ∷ look env root (meaning root r) y ∷ [])) s) (operand-order j)
      ∙ ap (λ w. run env root (in_order a) 0 (few o (meaning root r ∷ w ∷ [])) s) (j.looks env eb root (meaning root r)))
      (λ env e t. let eb = pushed-has p env (k.grows.within env e) in
      k.reads env e t ∙ pushed-read p env (r ∷ t)
      ∙ ap (λ cs. read env cs (reads env (Two o AtHand y) (r ∷ t))) (operand-order j)
      ∙ ap (λ (z : Rule × List Rule). let w = operand_rule env AtHand z.1 in
      read env (in_order a) (tree.apply o (rule w.0 (rule z.0 no_rules)) ∷ w.1)) (j.reads env eb (r ∷ t)))
      (λ none deep f. k.frugal (first-none r (rule q no_rules) (all-none o (rule r (rule q no_rules)) none))
      (first-deep _ o r (rule q no_rules) deep) (pushed-frugal p refl (operand-frugal j f)))

  -- the first two lent
  pub added-three : {h : ℕ} {x y : Operand} {r q u : Rule} {a b c d f : Code} → IsOperand x r a b →
      IsOperand y q b c → Pushed (Three o x y) c d → Adds h u d f
      → Adds h (tree.apply o (rule r (rule q (rule u no_rules)))) a f
  added-three {x = x} {y = y} {r = r} {q = q} {u = u} {a = a} i j p k = let order = operand-order j ∙ operand-order i in
      strict-adds (grows-trans i.grows (grows-trans j.grows (grows-trans (pushed-grows p) k.grows)))
      (omega (arith, i.few, j.few, pushed-few p, k.few))
      (λ env e root v s l. let ed = k.grows.within env e in let ec = pushed-has p env ed in
      let eb = j.grows.within env ec in let w = meaning root u in
      k.runs env e root v s l ∙ pushed-run p env root w s
      ∙ ap (λ cs. run env root cs 0 (few o (look env root w x ∷ look env root w y ∷ w ∷ [])) s) order
      ∙ ap (λ z. run env root (in_order a) 0 (few o (z ∷ look env root w y ∷ w ∷ [])) s) (i.looks env eb root w)
      ∙ ap (λ z. run env root (in_order a) 0 (few o (meaning root r ∷ z ∷ w ∷ [])) s) (j.looks env ec root w))
      (λ env e t. let ed = k.grows.within env e in let ec = pushed-has p env ed in let eb = j.grows.within env ec in
      k.reads env e t ∙ pushed-read p env (u ∷ t)
      ∙ ap (λ cs. read env cs (reads env (Three o x y) (u ∷ t))) order
      ∙ ap (λ (z : Rule × List Rule). let w = operand_rule env x z.1 in
      read env (in_order a) (tree.apply o (rule w.0 (rule z.0 (rule u no_rules))) ∷ w.1)) (j.reads env ec t)
      ∙ ap (λ (w : Rule × List Rule). read env (in_order a) (tree.apply o (rule w.0 (rule q (rule u no_rules))) ∷ w.1)) (i.reads env eb t))
      (λ none deep f.
      k.frugal (third-none r q u no_rules none) (omega (arith, deep))
      (pushed-frugal p (strict-asks o strict (itself-none o (rule r (rule q (rule u no_rules))) none))
      (operand-frugal j (operand-frugal i f))))

  -- both computed
  pub added-second : {h m : ℕ} {r q : Rule} {a b c d f : Code} → m ≡ h + 1 → Pushed (Second o) a b → Adds m q b c →
      Raised Keep m c d → Adds h r d f
      → Adds h (tree.apply o (rule r (rule q no_rules))) a f
  added-second {r = r} {q = q} up p y k x =
      strict-adds (grows-trans (pushed-grows p) (grows-trans y.grows (grows-trans (raised-grows k) x.grows)))
      (omega (arith, pushed-few p, y.few, raised-few k, x.few))
      (λ env e root v s l. let ed = x.grows.within env e in let ec = raised-has k env ed in
      x.runs env e root v s l ∙ raised-run k env ed root (meaning root r) s (omega (arith, up, l))
      ∙ y.runs env ec root null (meaning root r ∷ s) (omega (arith, up, l))
      ∙ pushed-run p env root (meaning root q) (meaning root r ∷ s))
      (λ env e t. let ed = x.grows.within env e in let ec = raised-has k env ed in
      x.reads env e t ∙ raised-read k env (r ∷ t) ∙ y.reads env ec (r ∷ t) ∙ pushed-read p env (q ∷ r ∷ t))
      (λ none deep f.
      let behind = y.frugal (second-none r q no_rules none) (omega (arith, up, deep)) (pushed-frugal p refl f) in
      x.frugal (first-none r (rule q no_rules) (all-none o (rule r (rule q no_rules)) none)) (omega (arith, deep))
      (raised-frugal k (omega (arith, up, deep)) behind))

  pub added-third : {h m n : ℕ} {r q u : Rule} {a b c d f g i : Code} → m ≡ h + 1 → n ≡ m + 1 →
      Pushed (Third o) a b → Adds n u b c → Raised Keep n c d → Adds m q d f
      → Raised Keep m f g → Adds h r g i → AddsAlone h o (r ∷ q ∷ u ∷ []) a i
  added-third {r = r} {q = q} {u = u} up on p z j y k x = record {
    alone = omega (arith, pushed-few p, z.few, raised-few j, y.few, raised-few k, x.few);
    adds = strict-adds (grows-trans (pushed-grows p)
        (grows-trans z.grows (grows-trans (raised-grows j)
        (grows-trans y.grows (grows-trans (raised-grows k) x.grows)))))
        (omega (arith, pushed-few p, z.few, raised-few j, y.few, raised-few k, x.few))
        (λ env e root v s l. let eg = x.grows.within env e in let ef = raised-has k env eg in
        let ed = y.grows.within env ef in let ec = raised-has j env ed in
        x.runs env e root v s l ∙ raised-run k env eg root (meaning root r) s (omega (arith, up, l))
        ∙ y.runs env ef root null (meaning root r ∷ s) (omega (arith, up, l))
        ∙ raised-run j env ed root (meaning root q) (meaning root r ∷ s) (omega (arith, up, on, l))
        ∙ z.runs env ec root null (meaning root q ∷ meaning root r ∷ s) (omega (arith, up, on, l))
        ∙ pushed-run p env root (meaning root u) (meaning root q ∷ meaning root r ∷ s))
        (λ env e t. let eg = x.grows.within env e in let ef = raised-has k env eg in
        let ed = y.grows.within env ef in let ec = raised-has j env ed in
        x.reads env e t ∙ raised-read k env (r ∷ t) ∙ y.reads env ef (r ∷ t) ∙ raised-read j env (q ∷ r ∷ t) ∙ z.reads env ec (q ∷ r ∷ t)
        ∙ pushed-read p env (u ∷ q ∷ r ∷ t))
        (λ none deep f.
        let rs = rule q (rule u no_rules) in
        let last = z.frugal (third-none r q u no_rules none) (omega (arith, up, on, deep))
        (pushed-frugal p (strict-asks o strict (itself-none o (rule r rs) none)) f) in
        let middle = y.frugal (second-none r q (rule u no_rules) none) (omega (arith, up, deep))
        (raised-frugal j (omega (arith, up, on, deep)) last) in
        x.frugal (first-none r rs (all-none o (rule r rs) none)) (omega (arith, deep)) (raised-frugal k (omega (arith, up, deep)) middle));
  }
