use Rattle.std.proofs.Common.{ℕ, List, ◌++◌, Err, take, sym, ap, subst, ◌∙◌}
use Rattle.std.specs.Io.KnownBytes.{Appends}
use Rattle.std.proofs.KnownBytes.{Appends-trans, Consumes-kept, Consumes-trans}
use Rattle.std.proofs.lemmas.Result.{err_from_is_err_and}
use Rattle.fp_stream.specs.Frames.{snapshots_of}
use Rattle.fp_stream.specs.Watching.{Watches, lines_of, of_stream}
use Rattle.fp_stream.specs.declared.watch.WatchFault.{WatchFault}
use Rattle.fp_stream.proofs.Watched.{lines_of-append, watched-device, watched-owed, watched-refused}
use Rattle.fp_stream.proofs.watch.watch_loop.Goals as goal

-- the reader failed
pub returns-in_err-count-clause-watched : goal.returns-in_err-count-clause-watched
returns-in_err-count-clause-watched g c = λ same.
    let p = err_from_is_err_and c.from_residual.result c.from_residual.ensures.1 in let inv = c.loop-decoder.invariant in
    let reads = g.R.Read.remaining c.args.r.now.inner in let left = g.R.Read.remaining c.loop-decoder.r.inner in
    let before = g.W.Write.contents c.args.w.now.inner in let held = g.W.Write.contents c.loop-decoder.w.inner in
    let now = g.R.Read.remaining c.read.new.self.inner in
    rw (p.1) (subst (λ (e : WatchFault). Watches c.args.has reads now before held (Err e))
    (sym (p.2 ∙ ap of_stream c.in_err-count.ensures.fault))
    (watched-device c.args.has reads now before held inv.bytes inv.frames c.loop-decoder.decoder inv.read inv.owed
    (Consumes-kept reads left now inv.bytes inv.came c.in_err-count.ensures.bytes) inv.shown))

-- a fault at once, or want of memory
pub returns-in_err-frames-clause-watched : goal.returns-in_err-frames-clause-watched
returns-in_err-frames-clause-watched g c = λ same.
    let p = err_from_is_err_and c.from_residual-in_err-frames.result c.from_residual-in_err-frames.ensures.1 in
    let inv = c.loop-decoder.invariant in
    let reads = g.R.Read.remaining c.args.r.now.inner in let left = g.R.Read.remaining c.loop-decoder.r.inner in
    let before = g.W.Write.contents c.args.w.now.inner in let held = g.W.Write.contents c.loop-decoder.w.inner in
    let now = g.R.Read.remaining c.read.new.self.inner in let piece = take c.in_ok-count.count c.read.new.buf in
    rw (p.1) (subst (λ (e : WatchFault). Watches c.args.has reads now before held (Err e)) (sym p.2)
    (watched-refused c.args.has reads left before held inv.bytes inv.frames c.loop-decoder.decoder inv.read inv.owed
    inv.came inv.shown now piece c.feed.new.self c.in_err-frames.field-0.0
    c.in_ok-count.ensures.bytes.0 (c.in_err-frames.ensures.read inv.owed)))

-- a fault behind frames
pub returns-in-Some-clause-watched : goal.returns-in-Some-clause-watched
returns-in-Some-clause-watched g c = λ same.
    let inv = c.loop-decoder.invariant in
    let reads = g.R.Read.remaining c.args.r.now.inner in let left = g.R.Read.remaining c.loop-decoder.r.inner in
    let before = g.W.Write.contents c.args.w.now.inner in let held = g.W.Write.contents c.loop-decoder.w.inner in
    let end = g.W.Write.contents c.show_all.new.w.inner in
    let now = g.R.Read.remaining c.read.new.self.inner in let piece = take c.in_ok-count.count c.read.new.buf in
    let more = snapshots_of c.in_ok-frames.frames.items in
    subst (λ (e : WatchFault). Watches c.args.has reads now before end (Err e)) (sym c.into.ensures)
    (watched-owed c.args.has reads left before held inv.bytes inv.frames c.loop-decoder.decoder inv.read inv.owed
    inv.came inv.shown now end piece c.feed.new.self c.in_ok-frames.frames c.in-Some.fault
    c.in_ok-count.ensures.bytes.0 (c.in_ok-frames.ensures.read inv.owed) (sym c.owed.ensures ∙ c.in-Some.is)
    (subst (λ (t : List ℕ). Appends before end t) (sym (lines_of-append inv.frames more))
    (Appends-trans before held end (lines_of inv.frames) (lines_of more) inv.shown
    c.in_ok-show_all.ensures.shown)))

pub loop-decoder-preserved : goal.loop-decoder-preserved
loop-decoder-preserved g c =
    let inv = c.loop-decoder.invariant in
    let reads = g.R.Read.remaining c.args.r.now.inner in let left = g.R.Read.remaining c.loop-decoder.r.inner in
    let before = g.W.Write.contents c.args.w.now.inner in let held = g.W.Write.contents c.loop-decoder.w.inner in
    let end = g.W.Write.contents c.show_all.new.w.inner in
    let now = g.R.Read.remaining c.read.new.self.inner in let piece = take c.in_ok-count.count c.read.new.buf in
    let more = snapshots_of c.in_ok-frames.frames.items in record {
      bytes = inv.bytes ++ piece;
      frames = inv.frames ++ more;
      read = c.in_ok-frames.ensures.so_far c.args.has inv.bytes inv.frames inv.read;
      owed = sym c.owed.ensures ∙ c.in_default.is;
      came = Consumes-trans reads left now inv.bytes piece inv.came c.in_ok-count.ensures.bytes.0;
      shown = subst (λ (t : List ℕ). Appends before end t) (sym (lines_of-append inv.frames more))
          (Appends-trans before held end (lines_of inv.frames) (lines_of more) inv.shown
          c.in_ok-show_all.ensures.shown);
      read_well = c.in_ok-count.ensures.counted ∙ inv.read_well;
      sent_well = c.in_ok-show_all.ensures.counted ∙ inv.sent_well;
    }
