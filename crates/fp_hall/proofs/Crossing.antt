-- Sets of flags, edits, desks and the desk's half of a committer may cross threads.
use denote.Param.Send.{IsSend, IsSync, sendable, view_send, view_sync, recorded_send, recorded_sync, struct_send, struct_sync, enum_send}
use denote.Struct.Declared.{shape}
use denote.Enum.Declared as enums
use Rattle.std.proofs.Crossing.{crosses, Deque-send, Vec-send}
use Rattle.std.proofs.MapsCrossing as maps
use Rattle.fp_committer.specs.contracts.desk_half.DeskHalf as desk_half
use Rattle.fp_committer.specs.contracts.desk_half.DeskHalf.TheInside as desk_half_inside
use Rattle.fp_committer.specs.contracts.half.Half as half
use Rattle.fp_committer.specs.contracts.half.Half.TheInside as half_inside
use Rattle.fp_fronts.proofs.growing.Front.TheSendSync as front
use Rattle.fp_fronts.proofs.growing.Growing.TheSendSync as growing
use Rattle.fp_definition.proofs.Crossing.{definition_sent, definition_shared}
use Rattle.fp_definition.proofs.key.FlagKey.TheSendSync as key
use Rattle.fp_edit.specs.contracts.edit.Edit as edit
use Rattle.fp_edit.specs.contracts.edit.Change as change
use Rattle.fp_edit.specs.contracts.changes.Changes as changes
use Rattle.fp_edit.specs.contracts.changes.Changes.TheInside as changes_inside
use Rattle.fp_documents.specs.contracts.flags.Flag as flag
use Rattle.fp_edit.specs.contracts.flag_set.FlagSet as flags
use Rattle.fp_edit.specs.contracts.flag_set.FlagSet.TheInside as inside
use Rattle.fp_group_commit.proofs.part.Part.TheSendSync as part
use Rattle.fp_group_commit.specs.contracts.settled.Settled as settled
use Rattle.fp_group_commit.specs.contracts.settled.Settled.TheInside as settled_inside
use Rattle.fp_desk.specs.contracts.desk.Desk as desk
use Rattle.fp_desk.specs.contracts.desk.Desk.TheInside as desk_inside

flag_sent : IsSend flag.the_row
flag_sent = search (sendable, definition_sent) depth 20

flag_shared : IsSync flag.the_row
flag_shared = search (sendable, definition_shared) depth 20

pub flags_sent : IsSend flags.the_row
flags_sent = view_send _ _ _ _ _
    (recorded_send _ _ _ (inside.the_type).to_one
    (struct_send (shape inside.the_type) (
      search (sendable, maps.BTreeMap-send, key.the_send, flag_sent) depth 5,
      (search sendable, (search sendable, (search sendable, (search sendable, (search (sendable, crosses), tt))))),
    )))

pub flags_shared : IsSync flags.the_row
flags_shared = view_sync _ _ _ _ _
    (recorded_sync _ _ _ (inside.the_type).to_one
    (struct_sync (shape inside.the_type) (
      search (sendable, maps.BTreeMap-sync, key.the_sync, flag_shared) depth 5,
      (search sendable, (search sendable, (search sendable, (search sendable, (search (sendable, crosses), tt))))),
    )))

change_sent : IsSend change.the_row
change_sent = recorded_send _ _ _ (change.the_type).to_one
    (enum_send (enums.shape change.the_type) (
      (key.the_field_send, (definition_sent, (search sendable depth 10, tt))),
      ((key.the_field_send, (search sendable depth 10, tt)), tt),
    ))

changes_sent : IsSend changes.the_row
changes_sent = view_send _ _ _ _ _
    (recorded_send _ _ _ (changes_inside.the_type).to_one
    (struct_send (shape changes_inside.the_type) (Vec-send _ change_sent, tt)))

pub edit_field_sent : IsSend (edit.the_field).row
edit_field_sent = enum_send (enums.shape edit.the_type) (
  (key.the_field_send, (definition_sent, (search sendable depth 10, tt))),
  ((key.the_field_send, (search sendable depth 10, tt)), ((changes_sent, tt), tt)),
)

pub edit_sent : IsSend edit.the_row
edit_sent = recorded_send _ _ _ (edit.the_type).to_one edit_field_sent

pub settled_sent : IsSend settled.the_row
settled_sent = view_send _ _ _ _ _
    (recorded_send _ _ _ (settled_inside.the_type).to_one
    (struct_send (shape settled_inside.the_type) (search sendable, (part.the_send, (Vec-send _ edit_sent, tt)))))

pub desk_sent : IsSend desk.the_row
desk_sent = view_send _ _ _ _ _
    (recorded_send _ _ _ (desk_inside.the_type).to_one
    (struct_send (shape desk_inside.the_type) (
      flags_sent,
      (
        flags_sent,
        (
          Deque-send _ edit_sent,
          (
            Deque-send _ edit_sent,
            (
              Deque-send _ edit_sent,
              (settled_sent, (search sendable, (search (sendable, crosses), tt))),
            ),
          ),
        ),
      ),
    )))

pub half_sent : IsSend half.the_row
half_sent = view_send _ _ _ _ _
    (recorded_send _ _ _ (half_inside.the_type).to_one
    (struct_send (shape half_inside.the_type) (search (sendable, growing.the_send, front.the_send) depth 20)))

pub desk_half_sent : IsSend desk_half.the_row
desk_half_sent = view_send _ _ _ _ _
    (recorded_send _ _ _ (desk_half_inside.the_type).to_one
    (struct_send (shape desk_half_inside.the_type) (desk_sent, (half_sent, tt))))
