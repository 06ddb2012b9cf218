use Rattle.std.proofs.Crossing.{Arc-send}
use Rattle.fp_relay.proofs.Crossing.{shelf_sent, shelf_shared}
use Rattle.fp_relay.proofs.Spawning.{spawned, ◌and◌, nothing}
use Rattle.fp_kept.proofs.keeping.KeptFile.TheSendSync as kept_file
use Rattle.fp_relay.proofs.threads.Relaying.begin_keeping.Goals as goal

pub spawn-begun-requires-send-F : goal.spawn-begun-requires-send-F
spawn-begun-requires-send-F g c κs within =
    let b = c.type_bounds in
    spawned 1 _ _ (Arc-send _ shelf_sent shelf_shared and b.send-R and b.send-K and kept_file.the_send and nothing)
