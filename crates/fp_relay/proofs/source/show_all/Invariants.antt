use Rattle.std.proofs.Common.{◌≡◌, ◌++◌, List, length}
use Rattle.std.specs.Vec.Iter.{into_iter_items, into_iter_len}
use Rattle.fp_stream.specs.Frames.{Snapshot, snapshots_of}
use Rattle.fp_relay.specs.Following.{Shows}
use Rattle.fp_relay.proofs.source.show_all.Given as goal

-- all frames are those that were looked at, and those that are left
abbrev pub invariant-loop-frame : goal.invariant-loop-frame
invariant-loop-frame g l = record {
  done : List Snapshot;
  parts : done ++ snapshots_of (into_iter_items l.frame-iterator) ≡ snapshots_of l.fn.frames.items;
  shows : Shows l.initial.last l.last (g.A.Audience.seen l.initial.audience) (g.A.Audience.seen l.audience) done;
  counted : length (into_iter_items l.frame-iterator) ≡ into_iter_len l.frame-iterator;
}
