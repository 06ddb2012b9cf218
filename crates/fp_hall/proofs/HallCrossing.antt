-- A hall may cross threads.
use denote.RattleType.{RattleType}
use denote.Param.Send.{IsSend, sendable, view_send, recorded_send, struct_send}
use denote.Struct.Declared.{shape}
use Rattle.std.proofs.Crossing.{Vec-send}
use Rattle.std.proofs.alloc.Global.TheSendSync as heap
use Rattle.std.proofs.marker.PhantomData.TheSendSync as phantom
use Rattle.fp_fronts.proofs.growing.Growing.TheSendSync as growing
use Rattle.fp_hall.proofs.Crossing.{desk_half_sent}
use Rattle.fp_hall.proofs.PublishCrossing.{board_sent, evaluator_sent, seats_sent}
use Rattle.fp_hall.specs.contracts.hall.Hall as hall
use Rattle.fp_hall.specs.contracts.hall.Hall.TheInside as hall_inside
use Rattle.fp_hall.specs.contracts.own_board.OwnBoard as own_board
use Rattle.fp_hall.specs.contracts.own_board.OwnBoard.TheInside as own_board_inside
use Rattle.fp_hall.specs.declared.naming.Naming as naming

own_board_sent : (R : RattleType) → IsSend R → IsSend (own_board.the_row R)
own_board_sent R sr = let T = own_board_inside.the_type R in
    view_send _ _ _ _ _ (recorded_send _ _ _ T.to_one (struct_send (shape T) (board_sent, search (sendable, sr) depth 20)))

pub hall_sent : (K R : RattleType) (k : naming.Ghosts K.Denot) → IsSend R → IsSend (hall.the_row K R k)
hall_sent K R k sr = let T = hall_inside.the_type K R k in
    view_send _ _ _ _ _ (recorded_send _ _ _ T.to_one (struct_send (shape T) (
      desk_half_sent,
      (
        search (sendable, growing.the_send) depth 10,
        (
          own_board_sent R sr,
          (
            Vec-send _ evaluator_sent,
            (
              seats_sent,
              (
                search sendable,
                (
                  search sendable,
                  (search sendable, (search sendable, (heap.the_field_send, (phantom.the_field_send K, tt)))),
                ),
              ),
            ),
          ),
        ),
      ),
    )))
