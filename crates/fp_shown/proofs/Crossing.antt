-- What is shown may cross threads, and threads may share it.
use denote.Param.Send.{IsSend, IsSync, sendable, view_send, view_sync, recorded_send, recorded_sync}
use denote.Param.Send.{struct_send, struct_sync}
use denote.Struct.Declared.{shape}
use Rattle.std.proofs.Crossing.{crosses}
use Rattle.std.proofs.MapsCrossing as maps
use Rattle.fp_definition.proofs.Crossing.{definition_sent, definition_shared}
use Rattle.fp_definition.proofs.key.FlagKey.TheSendSync as key
use Rattle.fp_documents.specs.contracts.flags.Flag as flag
use Rattle.fp_edit.specs.contracts.flag_set.FlagSet as flags
use Rattle.fp_edit.specs.contracts.flag_set.FlagSet.TheInside as flags_inside
use Rattle.fp_shown.specs.contracts.shown.Shown as shown
use Rattle.fp_shown.specs.contracts.shown.Shown.TheInside as shown_inside

flag_sent : IsSend flag.the_row
flag_sent = search (sendable, definition_sent) depth 20

flag_shared : IsSync flag.the_row
flag_shared = search (sendable, definition_shared) depth 20

flags_sent : IsSend flags.the_row
flags_sent = let T = flags_inside.the_type in
    view_send _ _ _ _ _ (recorded_send _ _ _ T.to_one (struct_send (shape T) (
      search (sendable, maps.BTreeMap-send, key.the_send, flag_sent) depth 5,
      (
        search sendable,
        (
          search sendable,
          (search sendable, (search sendable, (search (sendable, crosses), tt))),
        ),
      ),
    )))

flags_shared : IsSync flags.the_row
flags_shared = let T = flags_inside.the_type in
    view_sync _ _ _ _ _ (recorded_sync _ _ _ T.to_one (struct_sync (shape T) (
      search (sendable, maps.BTreeMap-sync, key.the_sync, flag_shared) depth 5,
      (
        search sendable,
        (
          search sendable,
          (search sendable, (search sendable, (search (sendable, crosses), tt))),
        ),
      ),
    )))

pub shown_sent : IsSend shown.the_row
shown_sent = let T = shown_inside.the_type in
    view_send _ _ _ _ _
    (recorded_send _ _ _ T.to_one
    (struct_send (shape T) (flags_sent, (search (sendable, crosses) depth 10, tt))))

pub shown_shared : IsSync shown.the_row
shown_shared = let T = shown_inside.the_type in
    view_sync _ _ _ _ _
    (recorded_sync _ _ _ T.to_one
    (struct_sync (shape T) (flags_shared, (search (sendable, crosses) depth 10, tt))))
