use denote.Param.{copied}
use Rattle.std.proofs.Crossing.{Arc-send}
use Rattle.std.proofs.net.socket_addr.SocketAddrV4.TheSendSync as address
use Rattle.fp_stream.proofs.hello.Hello.TheSendSync as hello
use Rattle.fp_relay.proofs.Crossing.{showing_sent}
use Rattle.fp_relay.proofs.Spawning.{spawned, ◌and◌, nothing}
use Rattle.fp_relay.proofs.uplink.Uplink.TheSendSync as uplink
use Rattle.fp_relay.proofs.threads.Relaying.begin_source.Goals as goal

pub spawn-requires-send-F : goal.spawn-requires-send-F
spawn-requires-send-F g c κs within =
    let b = c.type_bounds in
    spawned 1 _ _ (b.send-R and address.the_send and Arc-send _ uplink.the_send uplink.the_sync and hello.the_send
    and showing_sent (copied 0 g.row.R) b.send-R and nothing)
