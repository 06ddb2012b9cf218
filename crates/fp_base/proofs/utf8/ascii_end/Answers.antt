use Rattle.std.proofs.Common.{ap, sym, subst, ◌+◌, arith}
use lib.Count.{count_trailing_zeros}
use Rattle.std.proofs.lemmas.Simd.{none_from_empty_mask}
use Rattle.std.specs.Prelude.{nat_le}
use Rattle.fp_base.proofs.Pieces.{Ascii, ascii_on, ascii_stops}
use Rattle.fp_base.proofs.utf8.ascii_end.Goals as goal

pub returns-then-found-ne0-clause-within : goal.returns-then-found-ne0-clause-within
returns-then-found-ne0-clause-within c =
    let l = c.loop-end in
    let found = c.foreign_among-found.ensures in
    let stops = ascii_stops c.args.bytes.now c.args.from l.end 16 (omega arith) (omega arith) l.invariant.2 (omega (arith, found)) in
    let same = ap (count_trailing_zeros 64) found in
    (omega (arith, l.invariant.0), omega (arith, stops.0, same))

pub returns-then-found-ne0-clause-ascii : goal.returns-then-found-ne0-clause-ascii
returns-then-found-ne0-clause-ascii c =
    let l = c.loop-end in
    let found = c.foreign_among-found.ensures in
    let stops = ascii_stops c.args.bytes.now c.args.from l.end 16 (omega arith) (omega arith) l.invariant.2 (omega (arith, found)) in
    subst (λ n. Ascii c.args.bytes.now c.args.from (l.end + n)) (ap (count_trailing_zeros 64) (sym found)) stops.1

pub loop-end-preserved : goal.loop-end-preserved
loop-end-preserved c =
    let l = c.loop-end in
    let none = none_from_empty_mask (nat_le 128) c.args.bytes.now l.end 16 0 (omega arith) (omega (arith, c.foreign_among-found.ensures)) in
    (omega (arith, l.invariant.0), omega arith, ascii_on c.args.bytes.now c.args.from l.end (l.end + 16) l.invariant.2 none)
