use Rattle.std.proofs.Common.{◌≡◌, subst, sym, arith}
use Rattle.fp_base.specs.TreeView.{tree_items}
use Rattle.fp_operators.specs.Data.{text}
use Rattle.fp_targeting.specs.Emits.{IsOperand}
use Rattle.fp_machine.specs.Rule.{apply, literal, rule, no_rules}
use Rattle.fp_machine.specs.declared.code.Operand.TheVariants.{Variable}
use Rattle.fp_machine.specs.declared.operator.Operator.TheVariants.{Var}
use Rattle.fp_targeting.proofs.Leaves.{only-text, compiled-text, operand-variable}
use Rattle.fp_targeting.proofs.builder.Builder.known_variable.Goals as goal

pub returns-in_ok-path-in-Some-clause-some : goal.returns-in_ok-path-in-Some-clause-some
returns-in_ok-path-in-Some-clause-some c = λ o e.
    let ts = c.args.arguments.now in
    let path = c.in-Some.path in
    let same : Variable c.in_ok-path-in-Some.field-0 ≡ o = cc in
    compiled-text (tree_items ts) path.now
    (only-text ts c.only-item.result path.now (omega (arith, c.in-len1.len_at_least, c.in-len1.len_below))
    c.only-item.is (sym c.in-Some.ensures))
    (subst (λ x. IsOperand x (apply Var (rule (literal (text path.now)) no_rules)) c.args.self.now.code c.path.new.self.code)
    same (operand-variable c.in_ok-path-in-Some.ensures))
