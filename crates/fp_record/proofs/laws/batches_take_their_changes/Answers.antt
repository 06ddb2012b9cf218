use Rattle.fp_record.proofs.Lengths.{length-encoding_of_batch}
use Rattle.fp_record.proofs.laws.batches_take_their_changes.Goals as goal

pub returns : goal.returns
returns c = length-encoding_of_batch
