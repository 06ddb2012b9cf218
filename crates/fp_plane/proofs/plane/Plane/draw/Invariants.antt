use Rattle.std.proofs.Common.{◌≡◌}
use Rattle.fp_plane.proofs.plane.Plane.draw.Given as goal

-- nothing was drawn yet
abbrev pub invariant-loop : goal.invariant-loop
invariant-loop g l = (l.half ≡ l.initial.half) × (l.owes_step ≡ l.initial.owes_step)
