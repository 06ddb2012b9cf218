use Rattle.fp_operators.proofs.Equalities.{strict_sameness, strict_implies_loose, loose_symmetric}
use Rattle.fp_operators.proofs.laws.equality_laws.Goals as goal

pub returns : goal.returns
returns c = record {
  sameness = strict_sameness;
  implied = strict_implies_loose;
  symmetric = loose_symmetric;
}
