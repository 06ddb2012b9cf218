use Rattle.std.proofs.Common.{arith}
use Rattle.fp_base.proofs.Pieces.{ascii_four}
use Rattle.fp_base.proofs.utf8.many_ascii_end.Goals as goal

pub loop-end-preserved : goal.loop-end-preserved
loop-end-preserved c =
    let l = c.loop-end in
    let on = ascii_four c.args.bytes.now c.args.from l.end (omega arith) l.invariant.2 (omega (arith, c.foreign_among.ensures)) in
    (omega (arith, l.invariant.0), omega arith, on)
