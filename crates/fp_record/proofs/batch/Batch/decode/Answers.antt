use Rattle.std.proofs.Common.{◌≡◌, arith}
use Rattle.fp_record.specs.WellFormed.{IsBatch}
use Rattle.fp_record.specs.Reading.{batch_in}
use Rattle.fp_record.specs.Encoding.{encoding_of_batch}
use Rattle.fp_record.proofs.Batches.{batch_spelled, batch_found}
use Rattle.fp_record.proofs.Whole.{is_found, is_read}
use Rattle.fp_record.proofs.batch.Batch.decode.Goals as goal

pub returns-clause-spelled : goal.returns-clause-spelled
returns-clause-spelled c =
    is_read (λ batch. IsBatch batch × (c.args.bytes.now ≡ encoding_of_batch batch)) c.whole_batch.result
    (batch_in c.args.bytes.now) c.whole_batch.ensures
    (λ batch e. batch_spelled c.args.bytes.now batch (λ i. omega (arith, c.type_inv.bytes i)) e)

pub returns-clause-found : goal.returns-clause-found
returns-clause-found c = λ batch is e. is_found c.whole_batch.result (batch_in c.args.bytes.now) batch
    c.whole_batch.ensures (batch_found c.args.bytes.now batch is e)
