use Rattle.std.proofs.Common.{◌≡◌, length}
use Rattle.fp_operators.specs.Murmur.{absorbed}
use Rattle.fp_operators.proofs.murmur.absorb.Given as goal

-- what is left decides
abbrev pub invariant-blocks-2 : goal.invariant-blocks-2
invariant-blocks-2 l = absorbed l.state l.left ≡ absorbed l.state-2 l.bytes

abbrev pub decreases-blocks-2 : goal.decreases-blocks-2
decreases-blocks-2 l = length l.left
