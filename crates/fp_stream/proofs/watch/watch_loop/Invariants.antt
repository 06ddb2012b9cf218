use Rattle.std.proofs.Common.{◌≡◌, ℕ, List, None}
use Rattle.std.specs.Io.KnownBytes.{Appends, Consumes}
use Rattle.fp_stream.specs.Decoding.{HasRead}
use Rattle.fp_stream.specs.Frames.{Snapshot}
use Rattle.fp_stream.specs.Watching.{lines_of}
use Rattle.fp_stream.proofs.watch.watch_loop.Given as goal

-- the frames in what came were shown, and nothing failed
abbrev pub invariant-loop-decoder : goal.invariant-loop-decoder
invariant-loop-decoder g l = record {
  bytes : List ℕ;
  frames : List Snapshot;
  read : HasRead l.fn.has bytes frames l.decoder;
  owed : l.decoder.owed ≡ None;
  came : Consumes (g.R.Read.remaining l.initial.r.inner) (g.R.Read.remaining l.r.inner) bytes;
  shown : Appends (g.W.Write.contents l.initial.w.inner) (g.W.Write.contents l.w.inner) (lines_of frames);
  read_well : l.r.failures ≡ l.initial.r.failures;
  sent_well : l.w.failures ≡ l.initial.w.failures;
}

abbrev pub decreases-loop-decoder : goal.decreases-loop-decoder
decreases-loop-decoder g l = l.r.reads_left
