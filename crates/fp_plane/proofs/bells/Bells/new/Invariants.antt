use Rattle.std.proofs.Common.{◌≡◌, ◌≤◌, vec_len}
use Rattle.std.specs.Vec.{vec_capacity}
use Rattle.fp_plane.specs.declared.bells.TheConstants.{BELLS}
use Rattle.fp_plane.proofs.bells.Bells.new.Given as goal

-- so many were made, and there is room for all
abbrev pub invariant-loop : goal.invariant-loop
invariant-loop l = (vec_len l.bells ≡ l.counter) × (BELLS ≤ vec_capacity l.bells)
