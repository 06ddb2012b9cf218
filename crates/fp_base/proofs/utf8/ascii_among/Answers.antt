use Rattle.std.proofs.Common.{nat_lt, w8, arith}
use Rattle.std.proofs.lemmas.Simd.{bitmask_splat}
use Rattle.fp_base.proofs.utf8.ascii_among.Goals as goal

pub returns : goal.returns
returns c = bitmask_splat w8 nat_lt c.args.bytes 16 128 c.fits-bytes.0 (omega arith)
