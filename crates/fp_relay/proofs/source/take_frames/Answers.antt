use Rattle.std.proofs.Common.{ℕ, ◌++◌, take, refl, sym, ap, subst, ◌∙◌}
use Rattle.std.specs.Io.KnownBytes.{Consumes}
use Rattle.std.proofs.KnownBytes.{Consumes-kept, Consumes-trans}
use Rattle.std.proofs.lemmas.Result.{err_from_is_err_and}
use Rattle.fp_stream.specs.declared.hello.Hello.TheVariants.{Nothing}
use Rattle.fp_stream.specs.Frames.{snapshots_of}
use Rattle.fp_relay.specs.Ends.{Follows, of_frame, of_stream}
use Rattle.fp_relay.specs.declared.source.SourceEnd.{SourceEnd}
use Rattle.fp_relay.specs.declared.source.SourceEnd.TheVariants.{Device}
use Rattle.fp_relay.proofs.Followed.{followed, followed-end, followed-front, followed-refused, left-of_frame, short-given}
use Rattle.fp_relay.proofs.News.{shows-more}
use Rattle.fp_relay.proofs.source.take_frames.Goals as goal

-- the reader failed
pub returns-in_err-count : goal.returns-in_err-count
returns-in_err-count g c =
    let p = err_from_is_err_and c.from_residual.result c.from_residual.ensures.1 in let inv = c.loop-decoder.invariant in
    let reads = g.R.Read.remaining c.args.r.now.inner in let left = g.R.Read.remaining c.loop-decoder.r.inner in
    let now = g.R.Read.remaining c.read.new.self.inner in
    let old = g.A.Audience.seen c.args.audience.now in let new = g.A.Audience.seen c.loop-decoder.audience in
    rw (p.1) (subst (λ (e : SourceEnd). Follows reads now c.args.last.now c.loop-decoder.last old new e)
    (sym (p.2 ∙ ap of_stream c.in_err-count.ensures.fault))
    (followed reads now c.args.last.now c.loop-decoder.last old new inv.bytes inv.frames c.loop-decoder.decoder inv.read
    (Consumes-kept reads left now inv.bytes inv.came c.in_err-count.ensures.bytes) inv.shows Device refl))

-- the source ended the connection
pub returns-then-count-eq0 : goal.returns-then-count-eq0
returns-then-count-eq0 g c =
    let inv = c.loop-decoder.invariant in
    let reads = g.R.Read.remaining c.args.r.now.inner in let left = g.R.Read.remaining c.loop-decoder.r.inner in
    let now = g.R.Read.remaining c.read.new.self.inner in
    let old = g.A.Audience.seen c.args.audience.now in let new = g.A.Audience.seen c.loop-decoder.audience in
    followed-end reads left c.args.last.now c.loop-decoder.last old new inv.bytes inv.frames c.loop-decoder.decoder
    inv.read inv.came inv.shows now
    (subst (λ (n : ℕ). Consumes left now (take n c.read.new.buf)) c.if-count-eq0.true c.in_ok-count.ensures.bytes.0)

-- a fault at once, or want of memory
pub returns-in_err-frames : goal.returns-in_err-frames
returns-in_err-frames g c =
    let p = err_from_is_err_and c.from_residual-in_err-frames.result c.from_residual-in_err-frames.ensures.1 in
    let inv = c.loop-decoder.invariant in
    let reads = g.R.Read.remaining c.args.r.now.inner in let left = g.R.Read.remaining c.loop-decoder.r.inner in
    let now = g.R.Read.remaining c.read.new.self.inner in let piece = take c.in_ok-count.count c.read.new.buf in
    let old = g.A.Audience.seen c.args.audience.now in let new = g.A.Audience.seen c.loop-decoder.audience in
    rw (p.1) (subst (λ (e : SourceEnd). Follows reads now c.args.last.now c.loop-decoder.last old new e) (sym p.2)
    (followed-refused reads left c.args.last.now c.loop-decoder.last old new inv.bytes inv.frames
    c.loop-decoder.decoder inv.read inv.came inv.shows now piece c.feed.new.self
    c.in_err-frames.field-0.0 c.in_ok-count.ensures.bytes.0 (c.in_err-frames.ensures.so_far Nothing inv.bytes inv.frames inv.read)))

-- a decoder's frames are short
pub show_all-requires : goal.show_all-requires
show_all-requires g c =
    let inv = c.loop-decoder.invariant in let piece = take c.in_ok-count.count c.read.new.buf in
    short-given (inv.bytes ++ piece) inv.frames (snapshots_of c.in_ok-frames.frames.items) c.feed.new.self
    (c.in_ok-frames.ensures.so_far Nothing inv.bytes inv.frames inv.read)

-- a frame showed no set, or memory was wanting
pub returns-in_err-show_all : goal.returns-in_err-show_all
returns-in_err-show_all g c =
    let p = err_from_is_err_and c.from_residual-in_err-show_all.result c.from_residual-in_err-show_all.ensures.1 in
    let inv = c.loop-decoder.invariant in
    let reads = g.R.Read.remaining c.args.r.now.inner in let left = g.R.Read.remaining c.loop-decoder.r.inner in
    let now = g.R.Read.remaining c.read.new.self.inner in let piece = take c.in_ok-count.count c.read.new.buf in
    let old = g.A.Audience.seen c.args.audience.now in let new = g.A.Audience.seen c.loop-decoder.audience in
    let end = g.A.Audience.seen c.show_all.new.audience in
    rw (p.1) (subst (λ (e : SourceEnd). Follows reads now c.args.last.now c.show_all.new.last old end e) (sym p.2)
    (followed-front reads left c.args.last.now c.loop-decoder.last old new inv.bytes inv.frames
    c.loop-decoder.decoder inv.read inv.came inv.shows now piece c.feed.new.self
    (snapshots_of c.in_ok-frames.frames.items) c.show_all.new.last end c.in_err-show_all.field-0.0 c.in_ok-count.ensures.bytes.0
    (c.in_ok-frames.ensures.so_far Nothing inv.bytes inv.frames inv.read) c.in_err-show_all.ensures.front c.in_err-show_all.ensures.fault))

-- a fault behind frames
pub returns-in-Some : goal.returns-in-Some
returns-in-Some g c =
    let inv = c.loop-decoder.invariant in
    let reads = g.R.Read.remaining c.args.r.now.inner in let left = g.R.Read.remaining c.loop-decoder.r.inner in
    let now = g.R.Read.remaining c.read.new.self.inner in let piece = take c.in_ok-count.count c.read.new.buf in
    let more = snapshots_of c.in_ok-frames.frames.items in
    let old = g.A.Audience.seen c.args.audience.now in let new = g.A.Audience.seen c.loop-decoder.audience in
    let end = g.A.Audience.seen c.show_all.new.audience in
    subst (λ (e : SourceEnd). Follows reads now c.args.last.now c.show_all.new.last old end e) (sym c.into.ensures)
    (followed reads now c.args.last.now c.show_all.new.last old end (inv.bytes ++ piece) (inv.frames ++ more) c.feed.new.self
    (c.in_ok-frames.ensures.so_far Nothing inv.bytes inv.frames inv.read)
    (Consumes-trans reads left now inv.bytes piece inv.came c.in_ok-count.ensures.bytes.0)
    (shows-more c.args.last.now c.loop-decoder.last c.show_all.new.last old new end inv.frames more inv.shows c.in_ok-show_all.ensures.all)
    (of_frame c.in-Some.fault) (left-of_frame c.in-Some.fault))

pub loop-decoder-preserved : goal.loop-decoder-preserved
loop-decoder-preserved g c =
    let inv = c.loop-decoder.invariant in
    let reads = g.R.Read.remaining c.args.r.now.inner in let left = g.R.Read.remaining c.loop-decoder.r.inner in
    let now = g.R.Read.remaining c.read.new.self.inner in let piece = take c.in_ok-count.count c.read.new.buf in
    let more = snapshots_of c.in_ok-frames.frames.items in
    let old = g.A.Audience.seen c.args.audience.now in let new = g.A.Audience.seen c.loop-decoder.audience in
    let end = g.A.Audience.seen c.show_all.new.audience in record {
      bytes = inv.bytes ++ piece;
      frames = inv.frames ++ more;
      read = c.in_ok-frames.ensures.so_far Nothing inv.bytes inv.frames inv.read;
      owed = sym c.owed.ensures ∙ c.in_default.is;
      came = Consumes-trans reads left now inv.bytes piece inv.came c.in_ok-count.ensures.bytes.0;
      shows = shows-more c.args.last.now c.loop-decoder.last c.show_all.new.last old new end inv.frames more
          inv.shows c.in_ok-show_all.ensures.all;
    }
