use Rattle.std.proofs.Common.{◌≡◌, length, IsUtf8}
use Rattle.fp_operators.specs.Path.{follow, parts}
use Rattle.fp_operators.specs.View.{view}
use Rattle.fp_operators.proofs.path.at_path.Given as goal

-- what is left of the path, from where it is
abbrev pub invariant-parts : goal.invariant-parts
invariant-parts l = (follow (parts l.fn.path) (view l.fn.root) ≡ follow (parts l.rest) (view l.target)) × IsUtf8 l.rest

abbrev pub decreases-parts : goal.decreases-parts
decreases-parts l = length l.rest
