-- Which rule code is of.
use Rattle.std.specs.Prelude.{ℕ, List, [], ◌∷◌, map, get_or}
use Rattle.fp_operators.specs.Data.{null, whole, text}
use Rattle.fp_operators.specs.View.{view}
use Rattle.fp_machine.specs.Constant.{constant}
use Rattle.fp_machine.specs.Machine.{Env, path_at}
use Rattle.fp_machine.specs.Rule.{Rule, literal, list, apply, no_rules, rule}
use Rattle.fp_machine.specs.Stack.{onto, off}
use Rattle.fp_machine.specs.View.{rules_of}
use Rattle.fp_machine.specs.declared.operator.Operator.TheVariants.{Var, Cat, Fractional}
use Rattle.fp_machine.specs.declared.code.Code.{Code}
use Rattle.fp_machine.specs.declared.code.Operand.{Operand}
use Rattle.fp_machine.specs.declared.code.Operand.TheVariants.{Constant, Variable, All, AtHand}
use Rattle.fp_machine.specs.declared.code.Step.{Step}
use Rattle.fp_machine.specs.declared.code.Step.TheVariants.{Load, LoadNull, LoadWhole, Keep, KeepOf}
use Rattle.fp_machine.specs.declared.code.Step.TheVariants.{Skip, SkipIfFalse, SkipIfTrue, Find}
use Rattle.fp_machine.specs.declared.code.Step.TheVariants.{FindVariable, One, Two, Three}
use Rattle.fp_machine.specs.declared.code.Step.TheVariants.{Second, Third, Join, Collect, Split}
use Rattle.fp_machine.specs.declared.code.Step.TheVariants.{SplitByOwnKey, Wrap, End}

abbrev pub path_rule : Env → ℕ → Rule
path_rule env n = literal (text (path_at env n))

-- the rule that an operand is of, and what is left of the rules before it
abbrev pub operand_rule : Env → Operand → List Rule → Rule × List Rule
operand_rule env (Constant n) s = (constant (get_or env.pool n null), s)
operand_rule env (Variable n) s = (apply Var (rule (path_rule env n) no_rules), s)
operand_rule env All s = (apply Var no_rules, s)
operand_rule env AtHand [] = (literal null, [])
operand_rule env AtHand (r ∷ s) = (r, s)

abbrev pub with_last : (List Rule → Rule) → ℕ → List Rule → List Rule
with_last f n s = f (off n s []).0 ∷ (off n s []).1

-- the rules that instructions are of, behind one more
abbrev pub reads : Env → Step → List Rule → List Rule
reads env (Load o) s = let a = operand_rule env o s in a.0 ∷ a.1
reads env LoadNull s = s
reads env (LoadWhole z) s = literal (whole z) ∷ s
reads env Keep s = s
reads env (KeepOf o) s = let a = operand_rule env o s in a.0 ∷ a.1
reads env (Skip n) s = s
reads env (SkipIfFalse n) s = s
reads env (SkipIfTrue n) s = s
reads env (Find n) s = s
reads env (FindVariable path n) s = path_rule env path ∷ s
reads env (One o a) s =
    let x = operand_rule env a s in apply o (rule x.0 no_rules) ∷ x.1
reads env (Two o a b) s =
    let y = operand_rule env b s in
    let x = operand_rule env a y.1 in apply o (rule x.0 (rule y.0 no_rules)) ∷ x.1
reads env (Three o a b) s =
    let z = operand_rule env AtHand s in
    let y = operand_rule env b z.1 in
    let x = operand_rule env a y.1 in
    apply o (rule x.0 (rule y.0 (rule z.0 no_rules))) ∷ x.1
reads env (Second o) s = with_last (λ rs. apply o (rules_of rs)) 2 s
reads env (Third o) s = with_last (λ rs. apply o (rules_of rs)) 3 s
reads env (Join n) s = with_last (λ rs. apply Cat (rules_of rs)) n s
reads env (Collect n) s = with_last (λ rs. list (rules_of rs)) n s
reads env Wrap s = with_last (λ rs. list (rules_of rs)) 1 s
reads env (Split a pairs) s =
    let x = operand_rule env a s in apply Fractional (rule x.0 pairs) ∷ x.1
reads env (SplitByOwnKey pairs) s = apply Fractional pairs ∷ s
reads env (End o n) s = with_last (λ rs. apply o (rules_of rs)) n s

abbrev pub read : Env → List Step → List Rule → List Rule
read env [] s = s
read env (c ∷ cs) s = read env cs (reads env c s)

-- the instructions in the order in which they are done
abbrev pub in_order : Code → List Step
in_order code = onto code.steps.items []

abbrev pub env_of : Code → Env
env_of code = record { pool = map view code.pool.items; room = code.room }

abbrev pub last_or : Rule → List Rule → Rule
last_or r [] = r
last_or r (q ∷ s) = q

abbrev pub rule_of_code : Code → Rule
rule_of_code code = last_or (literal null) (read (env_of code) (in_order code) [])
