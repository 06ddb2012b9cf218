use Rattle.std.proofs.Common.{◌∙◌, sym}
use Rattle.std.proofs.lemmas.Result.{IfOk-weaker}
use Rattle.fp_server.proofs.evaluations.LentEvaluatorAnswers.answer.Goals as goal

-- over what the evaluator knows now, which is of the store that it was of
pub returns-clause-replies : goal.returns-clause-replies
returns-clause-replies g c =
    let w = c.answer.ensures in
    IfOk-weaker c.answer.result _ _ (λ r said. (c.answer.new.self.known, sym w.goes_on.0 ∙ c.args.self.now.ours, said)) w.over
