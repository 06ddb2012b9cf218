use Rattle.fp_targeting.proofs.MeaningLaws.{truth_of_result, not_twice, unnamed_unused}
use Rattle.fp_targeting.proofs.laws.meaning_laws.Goals as goal

pub returns : goal.returns
returns c = record {
  truth = truth_of_result;
  negation = not_twice;
  unnamed = unnamed_unused;
}
