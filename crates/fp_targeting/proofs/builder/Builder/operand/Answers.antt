use Rattle.std.proofs.Common.{◌≡◌, ◌≢◌, true, refl, get_or, length, sym, ap, ◌∙◌, arith, subst}
use Rattle.std.proofs.lemmas.Bool.{le-leb}
use Rattle.serde_json.specs.Data.{object, member, no_members}
use Rattle.fp_base.specs.Ordered.{IsOrdered}
use Rattle.fp_base.specs.TreeView.{tree_view, tree_items}
use Rattle.fp_base.proofs.Views.{view-Object}
use Rattle.fp_targeting.specs.Compiles.{IsCompiled, is_plain}
use Rattle.fp_targeting.specs.Emits.{IsOperand}
use Rattle.fp_machine.specs.Rule.{Rule}
use Rattle.fp_machine.specs.declared.operator.Operator.TheVariants.{Var}
use Rattle.fp_targeting.proofs.Compiling.{applies, operation}
use Rattle.fp_targeting.proofs.Leaves.{others-plain, named-var}
use Rattle.fp_targeting.proofs.Trees.{only-Object}
use Rattle.fp_targeting.proofs.builder.Builder.operand.Goals as goal

pub constant-requires-then-members-ne1-clause-plain : goal.constant-requires-then-members-ne1-clause-plain
constant-requires-then-members-ne1-clause-plain c =
    let v = c.in-Object.members in
    let others : length v.now ≢ 1 = grind (arith, c.if-members-ne1.true) in
    ap is_plain (ap tree_view c.in-Object.is ∙ view-Object v) ∙ others-plain v.now others

pub arguments-requires : goal.arguments-requires
arguments-requires c =
    let v = c.in-Object.members in
    let m = get_or v.now 0 c.index-members-0.result in
    let here : m ≡ get_or v.now 0 m = ap (get_or v.now 0) c.index-members-0.is in
    let one : length v.now ≡ 1 = grind (arith, c.if-members-ne1.false) in
    (subst IsOrdered (ap tree_view c.in-Object.is ∙ only-Object v m one here) c.requires.ordered).1.0

pub returns-in_ok-known_variable-in-Object-clause-some : goal.returns-in_ok-known_variable-in-Object-clause-some
returns-in_ok-known_variable-in-Object-clause-some c = λ o e.
    let v = c.in-Object.members in
    let m = get_or v.now 0 c.index-members-0.result in
    let here : m ≡ get_or v.now 0 m = ap (get_or v.now 0) c.index-members-0.is in
    let ts = c.arguments.result.now in
    let one : length v.now ≡ 1 = grind (arith, c.if-members-ne1.false) in
    let shape : tree_view c.args.json.now ≡ object (member m.0.now (tree_view m.1) no_members) =
    ap tree_view c.in-Object.is ∙ only-Object v m one here in
    let x = c.in_ok-known_variable-in-Object.ensures in
    let P = λ (r : Rule). IsOperand o r c.args.self.now.code c.known_variable.new.self.code in
    subst (IsCompiled P) (sym shape)
    (operation true m.0.now Var (tree_view m.1) (tree_items ts) P (named-var m.0.now c.if-ne.ensures)
    c.arguments.ensures.rules c.arguments.ensures.unknown
    (applies true Var P ts refl (le-leb (length ts) 2 (omega (arith, x.few o e))) (x.some o e)))
