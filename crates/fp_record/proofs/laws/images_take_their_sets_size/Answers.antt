use Rattle.std.specs.FinMap as map
use Rattle.fp_record.proofs.Lengths.{length-encoding_of_image}
use Rattle.fp_record.proofs.laws.images_take_their_sets_size.Goals as goal

pub returns : goal.returns
returns c = λ flags. length-encoding_of_image (map.entries flags)
