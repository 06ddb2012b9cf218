use Rattle.std.proofs.Common.{ℕ, List, ◌++◌, subst}
use Rattle.std.specs.Io.KnownBytes.{Appends}
use Rattle.fp_stream.proofs.frame.write_frame.Goals as goal

pub returns-clause-frame : goal.returns-clause-frame
returns-clause-frame g c =
    let k = g.W.Write.contents in
    subst (λ (h : List ℕ). Appends (k c.args.w.now.inner) (k c.send_both.new.self.inner) (h ++ c.args.document.now))
    c.head_bytes.ensures c.in_ok-send_both.ensures.bytes
