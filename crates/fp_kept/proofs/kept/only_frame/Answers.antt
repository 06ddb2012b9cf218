use Rattle.std.proofs.Common.{arith}
use Rattle.fp_stream.specs.declared.hello.Hello.TheVariants.{Nothing}
use Rattle.fp_kept.proofs.OneFrame.{given, one-length}
use Rattle.fp_kept.proofs.kept.only_frame.Goals as goal

pub returns-then-len-ne1 : goal.returns-then-len-ne1
returns-then-len-ne1 c = λ s lawful is.
    let frames = c.in_ok-frames.frames in let h = c.in_ok-frames.ensures in
    let one = one-length frames.items s
    (given (c.what_is_written_is_read.ensures Nothing) c.args.text.now frames.items h.0 h.1 s lawful is) in
    absurd (omega (arith, one, frames.ok.0))
