use Rattle.std.proofs.Common.{sym, ap, ◌∙◌}
use Rattle.fp_publish.specs.Evaluator.{EvaluatorState}
use Rattle.fp_publish.proofs.evaluator.Evaluator.put.Goals as goal

pub invariant_of-self : goal.invariant_of-self
invariant_of-self c = rw c.replace.ensures.after
    (c.requires.0, c.requires.1, c.requires.2 ∙ sym (ap (λ (e : EvaluatorState). e.known.store) c.self.view_is))
