use Rattle.std.proofs.Common.{arith}
use Rattle.fp_base.proofs.Pieces.{foreign_bits}
use Rattle.fp_base.proofs.utf8.foreign_among.Goals as goal

pub returns : goal.returns
returns c = foreign_bits c.args.bytes 16 c.fits-bytes.0 (omega arith)
