use Rattle.std.proofs.Common.{◌≡◌, ◌++◌, length}
use Rattle.fp_operators.specs.Murmur.{absorbed}
use Rattle.fp_operators.proofs.murmur.absorb_both.Given as goal

-- what is left in front decides
abbrev pub invariant-blocks-2 : goal.invariant-blocks-2
invariant-blocks-2 l = absorbed l.state (l.left ++ l.back) ≡ absorbed l.state-2 (l.front ++ l.back)

abbrev pub decreases-blocks-2 : goal.decreases-blocks-2
decreases-blocks-2 l = length l.left
