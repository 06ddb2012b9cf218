use Rattle.std.proofs.Common.{◌≡◌, ◌≤◌}
use Rattle.std.specs.Io.KnownBytes.{Keeps}
use Rattle.fp_streams.proofs.counted.FailureCounted.read.Given as goal

-- an interruption gives nothing and is no failure
abbrev pub invariant-loop-self : goal.invariant-loop-self
invariant-loop-self g l = record {
  kept : Keeps (g.R.Read.remaining l.initial.self.inner) (g.R.Read.remaining l.self.inner);
  no_failure : l.self.failures ≡ l.initial.self.failures;
  fewer : l.self.reads_left ≤ l.initial.self.reads_left;
}

abbrev pub decreases-loop-self : goal.decreases-loop-self
decreases-loop-self g l = l.self.reads_left
