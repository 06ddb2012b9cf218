use Rattle.std.proofs.Common.{◌≡◌, refl, rules}
use Rattle.std.specs.Prelude.{Result}
use Rattle.fp_operators.specs.Data as value
use Rattle.fp_operators.specs.View.{view}
use Rattle.fp_machine.specs.Means.{Means}
use Rattle.fp_definition.specs.Resolving.{Said, by_result, data_of}
use Rattle.fp_definition.specs.declared.resolving.EvalFault.{EvalFault}
use Rattle.fp_definition.proofs.Said.{spells}
use Rattle.fp_definition.proofs.definition.Definition.by_rule.Goals as goal

pub returns-clause-resolves : goal.returns-clause-resolves
returns-clause-resolves c =
    let d = data_of c.args.self.now in
    let x = view c.datum.result.now in
    let means : Means c.args.rule.now c.args.data.now x = search rules in
    spells c.named_by.result (by_result d x)
    (λ (o : Result Said EvalFault). (y : value.Data) × Means c.args.rule.now c.args.data.now y ×
    (o ≡ by_result d y))
    (x, means, refl) c.named_by.ensures.resolves
