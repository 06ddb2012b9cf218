use Rattle.std.proofs.Common.{length, get_or, take, sym, subst, ◌<◌, arith}
use Rattle.std.specs.Str.{IsUtf8}
use Rattle.fp_canonical.proofs.Cuts.{cut_behind}
use Rattle.fp_canonical.proofs.Exact.{front_text, is_some_of}
use Rattle.fp_canonical.proofs.cursor.Cursor.escaped.Goals as goal

pub range_from-self-inside-requires : goal.range_from-self-inside-requires
range_from-self-inside-requires c h =
    let bytes = c.as_bytes-bytes.result.now in
    let at = c.in-Some.at in
    let within : at < length bytes = omega (arith, c.in-Some.ensures.within) in
    let ascii : get_or bytes at 0 < 128 = omega (arith, c.in-Some.ensures.quote) in
    cut_behind bytes _ at c.as_bytes-bytes.ensures.value c.as_bytes-bytes.ensures.utf8 within ascii

pub returns-clause-taken : goal.returns-clause-taken
returns-clause-taken c = λ s left is.
    let front = take c.in-Some.len c.unescaped.new.room in
    let utf8 : IsUtf8 front =
    front_text c.as_bytes-bytes.result.now c.in-Some.at front c.as_bytes-bytes.ensures.utf8 (omega (arith, c.in-Some.ensures.within))
    c.in-Some.ensures.quote c.in-Some.ensures.spelled in
    is_some_of c.utf8_text.result _ c.utf8_text.ensures (subst IsUtf8 (sym c.split_at_mut-front.ensures.front) utf8)
