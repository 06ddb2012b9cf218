-- Origins may cross threads, and threads may share them.
use denote.Param.Send.{IsSend, IsSync, sendable, view_send, view_sync, recorded_send, recorded_sync, struct_send, struct_sync}
use denote.Struct.Declared.{shape}
use Rattle.std.proofs.Crossing.{crosses}
use Rattle.fp_relay_replies.specs.contracts.cross_origin.Origins as origins
use Rattle.fp_relay_replies.specs.contracts.cross_origin.Origins.TheInside as origins_inside

pub origins_sent : IsSend origins.the_row
origins_sent = let T = origins_inside.the_type in
    view_send _ _ _ _ _ (recorded_send _ _ _ T.to_one
    (struct_send (shape T) (search (sendable, crosses) depth 10, tt)))

pub origins_shared : IsSync origins.the_row
origins_shared = let T = origins_inside.the_type in
    view_sync _ _ _ _ _ (recorded_sync _ _ _ T.to_one
    (struct_sync (shape T) (search (sendable, crosses) depth 10, tt)))
