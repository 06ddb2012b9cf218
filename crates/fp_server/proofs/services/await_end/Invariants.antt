use Rattle.std.proofs.Common.{◌≡◌}
use Rattle.fp_server.proofs.services.await_end.Given as goal

-- no read failed
abbrev pub invariant-loop : goal.invariant-loop
invariant-loop g l = l.r.failures ≡ l.initial.r.failures

abbrev pub decreases-loop : goal.decreases-loop
decreases-loop g l = l.r.reads_left
