use Rattle.std.proofs.Common.{◌≡◌}
use Rattle.fp_plane.proofs.plane.Plane.wait.Given as goal

-- the ticket came back, and nothing was said
abbrev pub invariant-loop : goal.invariant-loop
invariant-loop g l = (l.ticket ≡ l.initial.ticket) × (l.editor ≡ l.initial.editor)
