use Rattle.std.proofs.Common.{arith}
use Rattle.fp_base.proofs.Unescaped.{bits-of}
use Rattle.fp_base.proofs.escaping.escaped_among_half.Goals as goal

pub returns : goal.returns
returns c = bits-of c.args.bytes 8 c.fits-bytes.0 (omega arith)
