use Rattle.std.proofs.Common.{◌≤◌, ℕ, List, Option, false, length}
use Rattle.fp_session.specs.Asks.{Ask}
use Rattle.fp_session.specs.Sources.{AskLines}
use Rattle.fp_session.proofs.Readings.{lines_at}
use Rattle.fp_session.proofs.input.next_line.Given as goal

-- the lines that ended so far were blank
abbrev pub invariant-loop-at : goal.invariant-loop-at
invariant-loop-at l = record {
  asks : (reads : Option (List ℕ)) (all : List Ask) →
      AskLines (lines_at false l.initial.line l.initial.chunk) reads all →
      AskLines (lines_at false l.line l.chunk) reads all;
  fewer : length l.chunk ≤ length l.initial.chunk;
}

abbrev pub decreases-loop-at : goal.decreases-loop-at
decreases-loop-at l = length l.chunk
