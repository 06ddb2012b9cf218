use Rattle.std.proofs.Common.{◌≤◌, ◌<◌, ℕ, List, length, ap, subst, ◌∙◌}
use Rattle.std.specs.FinMap as fin
use Rattle.fp_edit.specs.Flags.{size}
use Rattle.fp_documents.specs.declared.flags.Flag.{Flag}
use Rattle.fp_record.specs.Encoding.{encoding_of_image}
use Rattle.fp_record.specs.WellFormed.{IsImage}
use Rattle.fp_record.proofs.Lengths.{length-encoding_of_image}
use Rattle.fp_compaction.proofs.Images.{image_made}
use Rattle.fp_compaction.proofs.image.image_of.Goals as goal

pub returns-clause-image : goal.returns-clause-image
returns-clause-image c =
    let set = c.args.set.now in let es = fin.entries set.flags in
    let is = c.in_ok-image.ensures in
    let lawful : IsImage es = subst (λ (xs : List (List ℕ × Flag)). IsImage xs) is c.in_ok-bytes.ensures.lawful in
    let spelled = c.in_ok-bytes.ensures.spelled ∙ ap encoding_of_image is in
    let within : size set.flags ≤ set.limit = subst (λ (n : ℕ). n ≤ set.limit) c.size.ensures.size (c.size.ensures.within c.requires) in
    let numbered = subst (λ (n : ℕ). n < 9223372036854775808) c.revision.ensures.revision c.revision.ensures.bounded in
    image_made set c.iter.result c.in_ok-bytes.bytes.items c.iter.ensures.entries c.iter.ensures.changed numbered within lawful spelled

pub returns-clause-len : goal.returns-clause-len
returns-clause-len c =
    let is = c.in_ok-image.ensures in
    ap length c.in_ok-bytes.ensures.spelled ∙ ap (λ (xs : List (List ℕ × Flag)). length (encoding_of_image xs)) is ∙
    length-encoding_of_image (fin.entries c.args.set.now.flags)
