use Rattle.fp_operators.proofs.Numbers.{decimal_reads_back, remainder_exact}
use Rattle.fp_operators.proofs.laws.number_laws.Goals as goal

pub returns : goal.returns
returns c = record {
  read_back = decimal_reads_back;
  remainders = remainder_exact;
}
