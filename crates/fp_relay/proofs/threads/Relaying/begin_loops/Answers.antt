use denote.Exit.{no}
use denote.Param.{copied}
use denote.Param.Send.{arg_send, param_send}
use Rattle.fp_relay.proofs.Crossing.{evaluations_sent}
use Rattle.fp_relay.proofs.threads.Relaying.begin_loops.Goals as goal

pub begin_loop-requires-send-S : goal.begin_loop-requires-send-S
begin_loop-requires-send-S g c κs within = param_send 1 _ (arg_send _ no _ (evaluations_sent (copied 0 g.row.R) c.type_bounds.send-R))
