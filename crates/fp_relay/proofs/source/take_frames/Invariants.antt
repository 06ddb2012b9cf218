use Rattle.std.proofs.Common.{◌≡◌, ℕ, List, None}
use Rattle.std.specs.Io.KnownBytes.{Consumes}
use Rattle.fp_stream.specs.declared.hello.Hello.TheVariants.{Nothing}
use Rattle.fp_stream.specs.Decoding.{HasRead}
use Rattle.fp_stream.specs.Frames.{Snapshot}
use Rattle.fp_relay.specs.Following.{Shows}
use Rattle.fp_relay.proofs.source.take_frames.Given as goal

-- what is news of the frames in what came was shown
abbrev pub invariant-loop-decoder : goal.invariant-loop-decoder
invariant-loop-decoder g l = record {
  bytes : List ℕ;
  frames : List Snapshot;
  read : HasRead Nothing bytes frames l.decoder;
  owed : l.decoder.owed ≡ None;
  came : Consumes (g.R.Read.remaining l.initial.r.inner) (g.R.Read.remaining l.r.inner) bytes;
  shows : Shows l.initial.last l.last (g.A.Audience.seen l.initial.audience) (g.A.Audience.seen l.audience) frames;
}

abbrev pub decreases-loop-decoder : goal.decreases-loop-decoder
decreases-loop-decoder g l = l.r.reads_left
