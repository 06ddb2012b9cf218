use denote.Param.{copied, param}
use Rattle.std.proofs.Crossing.{Arc-send}
use Rattle.fp_connections.proofs.listener.Listener.TheSendSync as listener
use Rattle.fp_http.proofs.limits.TimeLimits.TheSendSync as limits
use Rattle.fp_plane.proofs.PlaneCrossing.{sealing_plane_sent}
use Rattle.fp_plane.proofs.Spawning.{spawned, ◌and◌, nothing}
use Rattle.fp_server.proofs.connections.Connections.TheSendSync as connections
use Rattle.fp_server.proofs.roles.Role.TheSendSync as role
use Rattle.fp_server.proofs.listening.Listening.start.Goals as goal

pub spawn-started-requires-send-F : goal.spawn-started-requires-send-F
spawn-started-requires-send-F g c κs within =
    let b = c.type_bounds in
    let R = copied 0 g.row.R in
    spawned 1 _ _ (b.send-R and Arc-send _ listener.the_send listener.the_sync and role.the_send and limits.the_send
    and connections.the_send R b.send-R b.sync-R
    and sealing_plane_sent (param 1 g.row.K) (param 2 g.row.D) g.K.Naming g.D.Disk b.send-D R b.send-R b.sync-R
    and nothing)
