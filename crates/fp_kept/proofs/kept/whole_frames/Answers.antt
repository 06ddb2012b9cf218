use Rattle.std.proofs.Common.{◌≡◌, ℕ, List, [], Result, Ok, Err, IfOk, sym, subst}
use Rattle.std.specs.Global.{Vec}
use Rattle.fp_stream.specs.declared.fault.FrameFault.{FrameFault}
use Rattle.fp_stream.specs.declared.frame.Frame.{Frame}
use Rattle.fp_stream.specs.declared.hello.Hello.TheVariants.{Nothing}
use Rattle.fp_stream.specs.Decoding.{HasRead, Reader, bytes_taken}
use Rattle.fp_stream.specs.Frames.{snapshots_of}
use Rattle.fp_kept.proofs.kept.whole_frames.Goals as goal

-- no frame was given of all bytes
none : {E : Type 0} (r : Result (Vec Frame) E) (f : FrameFault) (text : List ℕ) (now : Reader) →
    HasRead Nothing (bytes_taken (Err f) text) [] now
    → IfOk r (λ frames. (frames.items ≡ []) × ((t : List ℕ) → bytes_taken (Err f) t ≡ t)) →
    IfOk r (λ frames. (now : Reader) × HasRead Nothing text (snapshots_of frames.items) now)
none (Ok v) f text now h p = (
  now,
  subst (λ (l : List Frame). HasRead Nothing text (snapshots_of l) now) (sym p.0)
      (subst (λ (t : List ℕ). HasRead Nothing t [] now) (p.1 text) h),
)
none (Err e) f text now h p = tt

pub returns : goal.returns
returns c = none c.no_frames.result c.in-Err.fault c.args.text.now c.feed.new.self
    (c.in-Err.ensures.so_far Nothing [] [] c.new-decoder.ensures.so_far) c.no_frames.ensures
