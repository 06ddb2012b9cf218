use Rattle.fp_record.proofs.Batches.{batch_alone}
use Rattle.fp_record.proofs.laws.batches_stand_alone.Goals as goal

pub returns : goal.returns
returns c = batch_alone
