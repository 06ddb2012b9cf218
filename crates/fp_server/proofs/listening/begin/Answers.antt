use denote.Param.{copied, param}
use Rattle.std.proofs.net.tcp.TcpStream.TheSendSync as stream
use Rattle.std.proofs.net.socket_addr.SocketAddr.TheSendSync as peer
use Rattle.fp_http.proofs.limits.TimeLimits.TheSendSync as limits
use Rattle.fp_log.proofs.event.Port.TheSendSync as port
use Rattle.fp_plane.proofs.PlaneCrossing.{sealing_plane_sent}
use Rattle.fp_plane.proofs.Spawning.{spawned, ◌and◌, nothing}
use Rattle.fp_server.proofs.connections.Place.TheSendSync as place
use Rattle.fp_server.proofs.roles.Role.TheSendSync as role
use Rattle.fp_server.proofs.listening.begin.Goals as goal

pub spawn-started-requires-send-F : goal.spawn-started-requires-send-F
spawn-started-requires-send-F g c κs within =
    let b = c.type_bounds in
    let R = copied 2 g.row.R in
    spawned 1 _ _ (b.send-R and role.the_send and limits.the_send
    and sealing_plane_sent (param 0 g.row.K) (param 1 g.row.D) g.K.Naming g.D.Disk b.send-D R b.send-R b.sync-R
    and stream.the_send and place.the_send R b.send-R b.sync-R and port.the_send and peer.the_send and nothing)
