use Rattle.futures.specs.Task.{Keeps}
use Rattle.fp_http.specs.Gathering.{Gathers}
use Rattle.fp_http.proofs.gathering.GatheringFuture.poll.Given as goal

-- what may be gathered from here on may be so from the beginning on
abbrev pub invariant-loop : goal.invariant-loop
invariant-loop g l =
    g.T.Body.can_poll l.self.body × Keeps l.initial.cx l.cx
    × ((r : _) → Gathers (g.T.Body.yields l.self.body) l.self.«data».items r
    → Gathers (g.T.Body.yields l.initial.self.body) l.initial.self.«data».items r)
