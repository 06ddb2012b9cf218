use Rattle.std.proofs.Common.{List, ℕ, ap, sym, subst, length, get_or, bit_or, ◌≡◌, ◌<◌, ◌≤◌, ◌+◌, arith}
use Rattle.std.proofs.lemmas.Simd.{length-chunk}
use lib.Count.{count_trailing_zeros}
use lib.Lanes.{chunk, zip2}
use Rattle.fp_base.proofs.Pieces.{ascii_found, length-either}
use Rattle.fp_base.proofs.utf8.piece_end.Goals as goal

-- the bytes behind each
abbrev behind : List ℕ → ℕ → List ℕ
behind bytes end = zip2 bit_or (zip2 bit_or (chunk (end + 1) 16 bytes) (chunk (end + 2) 16 bytes)) (chunk (end + 3) 16 bytes)

length-behind : (bytes : List ℕ) (end : ℕ) → end + 19 ≤ length bytes → length (behind bytes end) ≡ 16
length-behind bytes end room =
    let two = length-either (chunk (end + 1) 16 bytes) (chunk (end + 2) 16 bytes) 16
    (length-chunk (end + 1) 16 bytes (omega arith)) (length-chunk (end + 2) 16 bytes (omega arith)) in
    length-either _ (chunk (end + 3) 16 bytes) 16 two (length-chunk (end + 3) 16 bytes (omega arith))

pub returns-then-found-ne0-clause-within : goal.returns-then-found-ne0-clause-within
returns-then-found-ne0-clause-within c =
    let l = c.loop-end in
    let bytes = c.args.bytes.now in
    let found = c.ascii_among-found.ensures in
    let long = length-behind bytes l.end (omega arith) in
    let stops = ascii_found bytes (behind bytes l.end) l.end 16 (omega arith) long (omega arith) (omega (arith, found)) in
    let same = ap (count_trailing_zeros 64) found in
    (omega (arith, l.invariant.0), omega (arith, stops.0, same))

pub returns-then-found-ne0-clause-ascii : goal.returns-then-found-ne0-clause-ascii
returns-then-found-ne0-clause-ascii c = λ _.
    let l = c.loop-end in
    let bytes = c.args.bytes.now in
    let found = c.ascii_among-found.ensures in
    let long = length-behind bytes l.end (omega arith) in
    let stops = ascii_found bytes (behind bytes l.end) l.end 16 (omega arith) long (omega arith) (omega (arith, found)) in
    subst (λ n. get_or bytes (l.end + n) 0 < 128) (ap (count_trailing_zeros 64) (sym found)) stops.1
