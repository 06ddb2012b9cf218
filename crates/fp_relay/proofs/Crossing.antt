-- What is shown may cross threads, and threads may share it; so may what waits to be kept, and the
-- service of a loop.
use denote.RattleType.{RattleType}
use denote.Param.Send.{IsSend, IsSync, sendable, view_send, view_sync, recorded_send, recorded_sync, struct_send, struct_sync}
use denote.Struct.Declared.{shape}
use Rattle.std.proofs.Crossing.{crosses, Arc-send}
use Rattle.std.proofs.sync.Condvar.TheSendSync as condvar
use Rattle.fp_shown.proofs.Crossing.{shown_sent, shown_shared}
use Rattle.fp_fronts.proofs.growing.Growing.TheSendSync as growing
use Rattle.fp_loop.proofs.inbox.Loops.TheSendSync as loops
use Rattle.fp_relay_replies.proofs.Crossing.{origins_sent, origins_shared}
use Rattle.fp_relay.proofs.numbers.Numbers.TheSendSync as numbers
use Rattle.fp_relay.specs.contracts.following.Showing as showing
use Rattle.fp_relay.specs.contracts.services.Evaluations as evaluations
use Rattle.fp_relay.specs.contracts.set.Set as set
use Rattle.fp_relay.specs.contracts.set.Set.TheInside as set_inside
use Rattle.fp_relay.specs.contracts.shelf.Shelf as shelf
use Rattle.fp_relay.specs.contracts.waiting.PutDown.TheInside as put_down_inside
use Rattle.fp_relay.specs.contracts.waiting.PutDown as put_down
use Rattle.fp_relay.specs.contracts.waiting.OnShelf as waiting

pub set_sent : IsSend set.the_row
set_sent = let T = set_inside.the_type in view_send _ _ _ _ _ (recorded_send _ _ _ T.to_one (struct_send (shape T) (shown_sent, tt)))

pub set_shared : IsSync set.the_row
set_shared = let T = set_inside.the_type in view_sync _ _ _ _ _ (recorded_sync _ _ _ T.to_one (struct_sync (shape T) (shown_shared, tt)))

waiting_sent : IsSend waiting.the_row
waiting_sent = let T = waiting.the_type in
    recorded_send _ _ _ T.to_one (struct_send (shape T)
    (search (sendable, crosses, set_sent, set_shared) depth 10, (search sendable, tt)))

put_down_sent : IsSend put_down.the_row
put_down_sent = let T = put_down_inside.the_type in
    view_send _ _ _ _ _ (recorded_send _ _ _ T.to_one (struct_send (shape T) (search (sendable, growing.the_send) depth 5, tt)))

pub shelf_sent : IsSend shelf.the_row
shelf_sent = let T = shelf.the_type in
    recorded_send _ _ _ T.to_one (struct_send (shape T)
    (search (sendable, crosses, waiting_sent) depth 10, (condvar.the_field_send, tt)))

pub shelf_shared : IsSync shelf.the_row
shelf_shared = let T = shelf.the_type in
    recorded_sync _ _ _ T.to_one (struct_sync (shape T)
    (search (sendable, crosses, waiting_sent) depth 10, (condvar.the_field_sync, tt)))

pub evaluations_sent : (R : RattleType) → IsSend R → IsSend (evaluations.the_row R)
evaluations_sent R sr = let T = evaluations.the_type R in
    recorded_send _ _ _ T.to_one (struct_send (shape T) (
      search (sendable, sr) depth 5,
      (
        search (sendable, crosses) depth 5,
        (
          search (sendable, crosses, origins_sent, origins_shared) depth 10,
          (Arc-send _ numbers.the_send numbers.the_sync, (search (sendable, crosses, set_sent, set_shared) depth 10, tt)),
        ),
      ),
    ))

pub showing_sent : (R : RattleType) → IsSend R → IsSend (showing.the_row R)
showing_sent R sr = let T = showing.the_type R in
    recorded_send _ _ _ T.to_one (struct_send (shape T) (
      search (sendable, sr) depth 5,
      (
        search (sendable, crosses) depth 5,
        (
          search (sendable, crosses, loops.the_send, loops.the_sync, set_sent, set_shared) depth 20,
          (
            Arc-send _ numbers.the_send numbers.the_sync,
            (
              search (sendable, crosses, shelf_sent, shelf_shared) depth 10,
              (
                search (sendable, crosses, set_sent, set_shared) depth 10,
                (search sendable, (search (sendable, growing.the_send) depth 5, (put_down_sent, tt))),
              ),
            ),
          ),
        ),
      ),
    ))
