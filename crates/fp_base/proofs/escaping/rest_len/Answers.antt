use Rattle.std.proofs.Common.{ap, sym, ◌∙◌, arith}
use lib.Count.{count_trailing_zeros}
use Rattle.fp_base.proofs.Unescaped.{run-stops, run-through}
use Rattle.fp_base.proofs.escaping.rest_len.Goals as goal

pub returns-then-found-ne0 : goal.returns-then-found-ne0
returns-then-found-ne0 c =
    let found = c.escaped_among_half-found in
    let stops = run-stops c.args.bytes.now c.args.from 8 (omega arith) (omega arith) (omega (arith, found.ensures)) in
    omega (arith, stops ∙ ap (count_trailing_zeros 64) (sym found.ensures))

pub returns : goal.returns
returns c =
    omega (arith, run-through c.args.bytes.now c.args.from 8 (omega arith) (omega (arith, c.escaped_among_half-found.ensures)))
