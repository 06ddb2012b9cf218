use Rattle.std.proofs.Common.{◌≡◌}
use Rattle.fp_plane.proofs.plane.Plane.settle.Given as goal

-- nothing was settled yet
abbrev pub invariant-loop : goal.invariant-loop
invariant-loop g l = l.half ≡ l.initial.half
