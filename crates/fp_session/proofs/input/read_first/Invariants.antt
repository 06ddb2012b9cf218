use Rattle.std.proofs.Common.{◌≡◌}
use Rattle.fp_session.proofs.FirstLines.{IsUnderWay}
use Rattle.fp_session.proofs.input.read_first.Given as goal

-- what came of it so far, and nothing behind it
abbrev pub invariant-loop-is_more : goal.invariant-loop-is_more
invariant-loop-is_more g l = record {
  read_well : l.reader.failures ≡ l.fn.reader.failures;
  way : IsUnderWay (g.R.Read.remaining l.fn.reader.inner) (g.R.Read.remaining l.reader.inner) l.line l.request;
}

abbrev pub decreases-loop-is_more : goal.decreases-loop-is_more
decreases-loop-is_more g l = l.reader.reads_left
