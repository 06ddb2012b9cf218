use Rattle.fp_layout.specs.Layout.{AreZeros}
use Rattle.fp_layout.proofs.header.first_other.Given as goal

abbrev pub invariant-loop-at : goal.invariant-loop-at
invariant-loop-at l = AreZeros l.bytes l.from l.at
