use Rattle.std.proofs.Common.{[], None}
use Rattle.fp_stream.specs.Frames.{stream_of}
use Rattle.fp_stream.proofs.Same.{one_way, written_whole}
use Rattle.fp_stream.proofs.laws.what_is_written_is_read.Goals as goal

pub returns : goal.returns
returns c has snapshots given now news p =
    (one_way has (stream_of snapshots) given snapshots p.rest [] p.fault None p.reads (written_whole has snapshots news)).frames
