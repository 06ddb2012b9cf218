use Rattle.std.proofs.Common.{ap, sym, ◌∙◌, arith}
use lib.Count.{count_trailing_zeros}
use Rattle.fp_base.proofs.Unescaped.{run-stops, run-through}
use Rattle.fp_base.proofs.escaping.run_len.Goals as goal

pub returns-then-found-ne0 : goal.returns-then-found-ne0
returns-then-found-ne0 c =
    let found = c.escaped_among-found in
    let stops = run-stops c.args.bytes.now c.loop-len.len 16 (omega arith) (omega arith) (omega (arith, found.ensures)) in
    omega (arith, stops ∙ ap (count_trailing_zeros 64) (sym found.ensures), c.loop-len.invariant.0)

pub loop-len-preserved : goal.loop-len-preserved
loop-len-preserved c =
    let through = run-through c.args.bytes.now c.loop-len.len 16 (omega arith) (omega (arith, c.escaped_among-found.ensures)) in
    (omega (arith, through, c.loop-len.invariant.0), omega arith)
