use Rattle.std.proofs.Common.{length, get_or, ◌<◌, arith}
use Rattle.fp_canonical.proofs.Cuts.{cut_behind}
use Rattle.fp_canonical.proofs.cursor.Cursor.take.Goals as goal

pub range_from-self-inside-requires : goal.range_from-self-inside-requires
range_from-self-inside-requires c h =
    let bytes = c.as_bytes-bytes.result.now in
    let some : 0 < length bytes = grind arith in
    let ascii : get_or bytes 0 0 < 128 = omega (arith, c.if-bytes-byte.false, c.requires) in
    cut_behind bytes c.self.inside.rest.now 0 c.as_bytes-bytes.ensures.value c.as_bytes-bytes.ensures.utf8 some ascii
