use Rattle.std.proofs.Common.{true, sym, ◌∙◌, rules}
use Rattle.fp_base.specs.TreeView.{tree_view}
use Rattle.fp_targeting.specs.Emits.{Pushed}
use Rattle.fp_machine.specs.declared.code.Step.TheVariants.{LoadWhole}
use Rattle.fp_targeting.proofs.Emitting.{added-load}
use Rattle.fp_targeting.proofs.Leaves.{compiled-number}
use Rattle.fp_targeting.proofs.Parts.{made-into}
use Rattle.fp_targeting.proofs.builder.Builder.load_constant.Goals as goal

pub returns-in-Some : goal.returns-in-Some
returns-in-Some c =
    let p : Pushed (LoadWhole c.in-Some.number) c.args.self.now.code c.load_whole.new.self.code = search rules in
    compiled-number (tree_view c.args.json.now) c.in-Some.number c.requires.plain (sym c.whole_number.ensures ∙ c.in-Some.is) p

pub returns : goal.returns
returns c = λ h. made-into _ true c.in_ok-operand.ensures (λ r e m. added-load m c.in_ok-push.ensures)
