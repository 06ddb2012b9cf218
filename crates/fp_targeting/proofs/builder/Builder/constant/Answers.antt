use Rattle.fp_base.specs.TreeView.{tree_view}
use Rattle.fp_operators.specs.FromJson.{data_of}
use Rattle.fp_machine.specs.Constant.{constant}
use Rattle.fp_targeting.proofs.Leaves.{rule_of-plain, known-plain, operand-constant}
use Rattle.fp_targeting.proofs.builder.Builder.constant.Goals as goal

pub returns : goal.returns
returns c =
    let d = tree_view c.args.json.now in record {
      rule = constant (data_of d);
      is_rule = rule_of-plain d c.requires.plain;
      known = known-plain d c.requires.plain;
      made = operand-constant c.in_ok-place.ensures;
    }
