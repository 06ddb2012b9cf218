use Rattle.std.proofs.Common.{◌≡◌, arith}
use Rattle.fp_record.specs.WellFormed.{IsImage}
use Rattle.fp_record.specs.Reading.{image_in, any_revision}
use Rattle.fp_record.specs.Encoding.{encoding_of_image}
use Rattle.fp_record.proofs.Images.{image_spelled, image_found, all_up_to}
use Rattle.fp_record.proofs.Whole.{is_found, is_read}
use Rattle.fp_record.proofs.image.Image.decode.Goals as goal

pub returns-clause-spelled : goal.returns-clause-spelled
returns-clause-spelled c =
    is_read (λ image. IsImage image × (c.args.bytes.now ≡ encoding_of_image image)) c.whole_image.result
    (image_in any_revision c.args.bytes.now) c.whole_image.ensures
    (λ image e. let s = image_spelled any_revision c.args.bytes.now image (λ i. omega (arith, c.type_inv.bytes i)) e in (s.0, s.2))

pub returns-clause-found : goal.returns-clause-found
returns-clause-found c = λ image is e. is_found c.whole_image.result (image_in any_revision c.args.bytes.now) image
    c.whole_image.ensures (image_found any_revision c.args.bytes.now image is (all_up_to image is.flags) e)
