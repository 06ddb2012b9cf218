use denote.Exit.{no}
use denote.Param.{copied}
use denote.Param.Send.{arg_send, param_send}
use Rattle.fp_disk.specs.contracts.memory.MemoryDisk as memory
use Rattle.fp_service_trials.proofs.DiskCrossing.{memory_sent}
use Rattle.fp_service_trials.proofs.held.HeldDisk.TheSendSync as held
use Rattle.fp_service_trials.proofs.running.run.Goals as goal

pub served-requires-send-D : goal.served-requires-send-D
served-requires-send-D g c κs within =
    let b = c.type_bounds in
    param_send 1 _ (arg_send _ no _ (held.the_send memory.the_row (copied 0 g.row.R) memory_sent b.send-R b.sync-R))
