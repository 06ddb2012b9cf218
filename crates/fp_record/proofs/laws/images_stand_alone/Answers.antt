use Rattle.fp_record.proofs.Images.{image_alone}
use Rattle.fp_record.proofs.laws.images_stand_alone.Goals as goal

pub returns : goal.returns
returns c = image_alone
