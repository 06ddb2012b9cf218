use Rattle.std.proofs.Common.{◌≡◌, ◌++◌, List, length}
use Rattle.std.specs.Io.KnownBytes.{Appends}
use Rattle.std.specs.Vec.Iter.{into_iter_items, into_iter_len}
use Rattle.fp_stream.specs.Frames.{Snapshot, snapshots_of}
use Rattle.fp_stream.specs.Watching.{lines_of}
use Rattle.fp_stream.proofs.watch.show_all.Given as goal

-- all frames are those that were shown, and those that are left
abbrev pub invariant-loop-frame : goal.invariant-loop-frame
invariant-loop-frame g l = record {
  done : List Snapshot;
  parts : done ++ snapshots_of (into_iter_items l.frame-iterator) ≡ snapshots_of l.fn.frames.items;
  shown : Appends (g.W.Write.contents l.initial.w.inner) (g.W.Write.contents l.w.inner) (lines_of done);
  counted : length (into_iter_items l.frame-iterator) ≡ into_iter_len l.frame-iterator;
  sent_well : l.w.failures ≡ l.initial.w.failures;
}
