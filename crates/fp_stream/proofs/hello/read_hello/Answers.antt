use Rattle.std.proofs.Common.{take, arith}
use Rattle.std.proofs.lemmas.List.{length-take}
use Rattle.fp_stream.proofs.Hellos.{no_cut}
use Rattle.fp_stream.proofs.hello.read_hello.Goals as goal

pub returns-in-Ok-clause-only : goal.returns-in-Ok-clause-only
returns-in-Ok-clause-only g c hello rest fits e =
    let k = g.R.Read.remaining in
    no_cut (k c.args.r.now.inner) (k c.fill.new.r.inner) (take c.in-Ok.len c.fill.new.bytes) hello rest
    c.in-Ok.ensures.read (c.in-Ok.ensures.end c.if-len-lt-HELLO.true)
    (omega (arith, length-take c.in-Ok.len c.fill.new.bytes)) e
