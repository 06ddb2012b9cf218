use Rattle.std.proofs.Common.{length}
use Rattle.fp_stream.specs.Steps.{Passes}
use Rattle.fp_stream.proofs.reading.frames_of.Given as goal

abbrev pub invariant-loop-rest : goal.invariant-loop-rest
invariant-loop-rest l = Passes l.fn.has l.fn.bytes l.fn.frames.items l.frames.items l.has l.rest

abbrev pub decreases-loop-rest : goal.decreases-loop-rest
decreases-loop-rest l = length l.rest
