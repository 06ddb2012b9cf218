-- A plane may cross threads, and threads may share it.
use denote.RattleType.{RattleType}
use denote.Param.Send.{IsSend, IsSync, sendable, view_send, recorded_send, recorded_sync, struct_send, struct_sync}
use denote.Struct.Declared.{shape}
use Rattle.std.proofs.Crossing.{crosses, Arc-send}
use Rattle.std.proofs.marker.PhantomData.TheSendSync as phantom
use Rattle.std.proofs.sync.Condvar.TheSendSync as condvar
use Rattle.std.proofs.sync.atomic.AtomicUsize.TheSendSync as atomic
use Rattle.fp_disk.specs.declared.disk.Disk as disk
use Rattle.fp_fronts.proofs.growing.Growing.TheSendSync as growing
use Rattle.fp_hall.proofs.HallCrossing.{hall_sent}
use Rattle.fp_plane.proofs.bells.Bells.TheSendSync as bells
use Rattle.fp_plane.proofs.evaluating.Evaluations.TheSendSync as evaluations
use Rattle.fp_plane.proofs.flushing.Broken.TheSendSync as broken
use Rattle.fp_plane.proofs.gathering.Gathering.TheSendSync as gathering
use Rattle.fp_hall.proofs.hall.tokens.AllSettled.TheSendSync as all_settled
use Rattle.fp_plane.proofs.StoreCrossing.{store_half_sent}
use Rattle.fp_plane.specs.contracts.leading.Lying as lying
use Rattle.fp_plane.specs.contracts.leading.Lying.TheInside as lying_inside
use Rattle.fp_plane.specs.contracts.owned.OwnHalf as own_half
use Rattle.fp_plane.specs.contracts.owned.OwnHalf.TheInside as own_half_inside
use Rattle.fp_plane.specs.contracts.flushing.Flushed as flushed
use Rattle.fp_plane.specs.contracts.plane.Plane as plane
use Rattle.fp_plane.specs.contracts.plane.Shared as shared
use Rattle.fp_plane.specs.contracts.sealing.SealingPlane as sealing_plane
use Rattle.fp_hall.specs.declared.naming.Naming as naming

pub own_half_sent : (D : RattleType) (d : disk.Ghosts D.Denot) → IsSend D → IsSend (own_half.the_row D d)
own_half_sent D d sd = let T = own_half_inside.the_type D d in
    view_send _ _ _ _ _ (recorded_send _ _ _ T.to_one (struct_send (shape T) (store_half_sent D d sd, tt)))

pub flushed_sent : (D : RattleType) (d : disk.Ghosts D.Denot) → IsSend D → IsSend (flushed.the_row D d)
flushed_sent D d sd = let T = flushed.the_type D d in
    recorded_send _ _ _ T.to_one
    (struct_send (shape T) (own_half_sent D d sd, search (sendable, all_settled.the_send, broken.the_send) depth 20))

module _ (K R : RattleType) (k : naming.Ghosts K.Denot) (sr : IsSend R) where
  shared_sent : IsSend (shared.the_row K R k)
  shared_sent = let T = shared.the_type K R k in
      recorded_send _ _ _ T.to_one (struct_send (shape T) (
        search (sendable, sr) depth 5,
        (
          search (sendable, crosses, hall_sent K R k sr) depth 10,
          (
            atomic.the_field_send,
            (
              condvar.the_field_send,
              (
                bells.the_field_send,
                (
                  condvar.the_field_send,
                  (evaluations.the_field_send, tt),
                ),
              ),
            ),
          ),
        ),
      ))

  shared_shared : IsSync R → IsSync (shared.the_row K R k)
  shared_shared yr = let T = shared.the_type K R k in
      recorded_sync _ _ _ T.to_one (struct_sync (shape T) (
        search (sendable, yr) depth 5,
        (
          search (sendable, crosses, hall_sent K R k sr) depth 10,
          (
            atomic.the_field_sync,
            (
              condvar.the_field_sync,
              (
                bells.the_field_sync,
                (
                  condvar.the_field_sync,
                  (evaluations.the_field_sync, tt),
                ),
              ),
            ),
          ),
        ),
      ))

  pub plane_field_sent : IsSync R → IsSend (plane.the_field K R k).row
  plane_field_sent yr = struct_send (shape (plane.the_type K R k)) (Arc-send _ shared_sent (shared_shared yr), tt)

module _ (K D : RattleType) (k : naming.Ghosts K.Denot) (d : disk.Ghosts D.Denot) (sd : IsSend D) where
  lying_sent : IsSend (lying.the_row K D k d)
  lying_sent = let T = lying_inside.the_type K D k d in
      view_send _ _ _ _ _ (recorded_send _ _ _ T.to_one (struct_send (shape T) (
        store_half_sent D d sd,
        (
          search (sendable, broken.the_send) depth 10,
          (
            gathering.the_field_send,
            (search sendable, (search (sendable, growing.the_send) depth 10, (phantom.the_field_send K, tt))),
          ),
        ),
      )))

  pub sealing_plane_sent : (R : RattleType) → IsSend R → IsSync R → IsSend (sealing_plane.the_row K D R k d)
  sealing_plane_sent R sr yr = let T = sealing_plane.the_type K D R k d in
      recorded_send _ _ _ T.to_one (struct_send (shape T) (plane_field_sent K R k sr yr, search (sendable, crosses, lying_sent) depth 20))
