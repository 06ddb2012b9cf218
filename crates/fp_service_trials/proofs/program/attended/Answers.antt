use denote.Exit.{no}
use denote.Param.Send.{arg_send, param_send}
use Rattle.fp_service_trials.proofs.DiskCrossing.{memory_sent}
use Rattle.fp_service_trials.proofs.program.attended.Goals as goal

pub over-requires-send-D : goal.over-requires-send-D
over-requires-send-D g c κs within = param_send 1 _ (arg_send _ no _ memory_sent)
