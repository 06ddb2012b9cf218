use Rattle.fp_publish.proofs.evaluator.Evaluator.rest.Goals as goal

pub put-requires : goal.put-requires
put-requires c = rw c.take.ensures.rested c.in-Some.ensures.seat
