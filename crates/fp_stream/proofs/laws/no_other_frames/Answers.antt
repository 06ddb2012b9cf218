use Rattle.fp_stream.proofs.Same.{begins_with}
use Rattle.fp_stream.proofs.laws.no_other_frames.Goals as goal

pub returns : goal.returns
returns c has bytes frames others rest more fault p news e = begins_with has bytes frames others rest more fault p news e
