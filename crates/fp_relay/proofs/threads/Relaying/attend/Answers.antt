use denote.Exit.{no}
use denote.Param.Send.{arg_send, arg_sync, param_send, param_sync}
use Rattle.fp_relay.proofs.Crossing.{set_sent, set_shared}
use Rattle.fp_relay.proofs.threads.Relaying.attend.Goals as goal

pub start-requires-send-N : goal.start-requires-send-N
start-requires-send-N g c κs within = param_send 0 _ (arg_send _ no _ set_sent)

pub start-requires-sync-N : goal.start-requires-sync-N
start-requires-sync-N g c κs within = param_sync 0 _ (arg_sync _ no _ set_shared)
