use Rattle.std.proofs.Common.{arith}
use Rattle.fp_documents.specs.Entries.{entries_of}
use Rattle.fp_record.specs.Reading.{any_revision}
use Rattle.fp_record.proofs.Images.{read_in_order}
use Rattle.fp_record.proofs.image.whole_image.Goals as goal

pub invariant_of-result : goal.invariant_of-result
invariant_of-result c = read_in_order any_revision c.args.bytes.now
    (entries_of c.in_ok-flags.flags.items, c.in_ok-flags.next) (λ i. omega (arith, c.type_inv.bytes i)) c.in_ok-flags.ensures.value
