use Rattle.std.proofs.Common.{subst}
use Rattle.std.specs.Prelude.{IfSome}
use Rattle.fp_definition.specs.Resolving.{data_of}
use Rattle.fp_definition.proofs.OneOutcome.{IsComputed, outcome_is}
use Rattle.fp_definition.proofs.definition.Definition.one_outcome.Goals as goal

pub returns : goal.returns
returns c = λ key context now outcome.
    outcome_is (data_of c.args.self.now) key context now outcome
    (subst (λ r. IfSome r IsComputed) c.rule.ensures c.rule_has_one_result.ensures)
