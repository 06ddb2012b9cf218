use Rattle.fp_stream.proofs.Same.{one_way}
use Rattle.fp_stream.proofs.laws.one_reading.Goals as goal

pub returns : goal.returns
returns c has bytes f g r t x y p q = let same = one_way has bytes f g r t x y p q in (same.frames, same.rest, same.fault)
