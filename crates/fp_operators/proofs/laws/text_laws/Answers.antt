use Rattle.fp_operators.proofs.Contained.{occurs_within}
use Rattle.fp_operators.proofs.Texts.{prefix_first, suffix_last}
use Rattle.fp_operators.proofs.laws.text_laws.Goals as goal

pub returns : goal.returns
returns c = record {
  parts = λ s t. occurs_within s t;
  prefixes = prefix_first;
  suffixes = suffix_last;
}
