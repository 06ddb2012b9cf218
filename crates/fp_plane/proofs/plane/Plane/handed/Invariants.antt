use Rattle.std.proofs.Common.{◌≡◌}
use Rattle.fp_publish.specs.Seats.{had_by}
use Rattle.fp_plane.proofs.plane.Plane.handed.Given as goal

-- nothing was handed yet
abbrev pub invariant-loop : goal.invariant-loop
invariant-loop g l = had_by l.seat ≡ had_by l.initial.seat
