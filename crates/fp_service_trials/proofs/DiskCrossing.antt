-- A disk in memory may cross threads.
use denote.Param.Send.{IsSend, sendable, view_send, recorded_send, struct_send}
use denote.Struct.Declared.{shape}
use Rattle.std.proofs.Crossing.{crosses}
use Rattle.fp_disk.proofs.call.Call.TheSendSync as call
use Rattle.fp_disk.proofs.failing.FailedWrite.TheSendSync as failed_write
use Rattle.fp_disk.proofs.failing.Failing.TheSendSync as failing
use Rattle.fp_disk.proofs.history.History.TheSendSync as history
use Rattle.fp_disk.specs.contracts.memory.MemoryDisk as memory
use Rattle.fp_disk.specs.contracts.memory.MemoryDisk.TheInside as inside

pub memory_sent : IsSend memory.the_row
memory_sent = let T = inside.the_type in
    view_send _ _ _ _ _ (recorded_send _ _ _ T.to_one (struct_send (shape T)
    (search (sendable, crosses, call.the_send, history.the_send, failing.the_field_send, failed_write.the_field_send) depth 20)))
