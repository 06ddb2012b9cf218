-- Code may cross threads.
use denote.Param.Send.{IsSend, IsSync, sendable, view_send, view_sync, recorded_send, recorded_sync, struct_send}
use denote.Param.Send.{struct_sync, enum_send, enum_sync}
use denote.Struct.Declared.{shape}
use denote.Enum.Declared as enums
use Rattle.std.proofs.Crossing.{crosses, Box-send, Box-sync, Vec-send, Vec-sync}
use Rattle.std.proofs.MapsCrossing as maps
use Rattle.fp_operators.proofs.datum.Datum.TheLaws.TheKnot as datum_knot
use Rattle.fp_operators.specs.contracts.datum.Datum as datum
use Rattle.fp_machine.proofs.operator.Operator.TheSendSync as operator
use Rattle.fp_machine.proofs.code.Operand.TheSendSync as operand
use Rattle.fp_machine.specs.contracts.code.Code as code
use Rattle.fp_machine.specs.contracts.code.Step as step
use Rattle.fp_machine.specs.contracts.table.Pairs as pairs
use Rattle.fp_machine.specs.contracts.table.Share as share
use Rattle.fp_machine.specs.contracts.table.Table as table
use Rattle.fp_machine.specs.contracts.table.Table.TheInside as table_inside

infixr 5 ◌and◌
-- what is known of one, and of the others
◌and◌ : {A B : Type 0} → A → B → A × B
a and b = (a, b)

one : {A : Type 0} → A → A × Unit {0}
one a = (a, tt)

datum_sent : IsSend (datum.the_field).row
datum_sent = search (sendable, crosses, maps.crosses, datum_knot.both_send-Datum) depth 30

datum_shared : IsSync (datum.the_field).row
datum_shared = search (sendable, crosses, maps.crosses, datum_knot.both_sync-Datum) depth 30

datum_row_sent : IsSend datum.the_row
datum_row_sent = search (sendable, datum_sent) depth 10

datum_row_shared : IsSync datum.the_row
datum_row_shared = search (sendable, datum_shared) depth 10

share_sent : IsSend share.the_row
share_sent = recorded_send _ _ _ (share.the_type).to_one
    (struct_send (shape share.the_type) (datum_sent, (search (sendable, crosses) depth 20, tt)))

share_shared : IsSync share.the_row
share_shared = recorded_sync _ _ _ (share.the_type).to_one
    (struct_sync (shape share.the_type) (datum_shared, (search (sendable, crosses) depth 20, tt)))

pairs_sent : IsSend pairs.the_row
pairs_sent = recorded_send _ _ _ (pairs.the_type).to_one (struct_send (shape pairs.the_type) (Vec-send _ share_sent, (search sendable, tt)))

table_sent : IsSend table.the_row
table_sent = view_send _ _ _ _ _
    (recorded_send _ _ _ (table_inside.the_type).to_one
    (struct_send (shape table_inside.the_type) (Box-send _ pairs_sent, tt)))

pairs_shared : IsSync pairs.the_row
pairs_shared = recorded_sync _ _ _ (pairs.the_type).to_one
    (struct_sync (shape pairs.the_type) (Vec-sync _ share_shared, (search sendable, tt)))

table_shared : IsSync table.the_row
table_shared = view_sync _ _ _ _ _
    (recorded_sync _ _ _ (table_inside.the_type).to_one
    (struct_sync (shape table_inside.the_type) (Box-sync _ pairs_shared, tt)))

number_sent : IsSend (denote.Plain.UInt mir.Syntax.w32)
number_sent = search sendable

place_sent : IsSend (denote.Plain.UInt mir.Syntax.w16)
place_sent = search sendable

wide_sent : IsSend (denote.Struct.Field.i64-field).row
wide_sent = search sendable

table_field_sent : IsSend (table.the_field).row
table_field_sent = search (sendable, table_sent) depth 10

step_sent : IsSend step.the_row
step_sent =
    recorded_send _ _ _ (step.the_type).to_one (enum_send (enums.shape step.the_type) (
    one operand.the_field_send and tt and one wide_sent and tt and one operand.the_field_send
    and one number_sent and one number_sent and one number_sent and one number_sent and (place_sent and one number_sent)
    and (operator.the_field_send and one operand.the_field_send)
    and (operator.the_field_send and operand.the_field_send and one operand.the_field_send)
    and (operator.the_field_send and operand.the_field_send and one operand.the_field_send)
    and one operator.the_field_send and one operator.the_field_send and one number_sent and one number_sent and tt
    and (operand.the_field_send and one table_field_sent) and one table_field_sent
    and (operator.the_field_send and one number_sent) and tt
    ))

pub code_sent : IsSend (code.the_field).row
code_sent = struct_send (shape code.the_type) (Vec-send _ step_sent, (Vec-send _ datum_row_sent, (search sendable, tt)))

number_shared : IsSync (denote.Plain.UInt mir.Syntax.w32)
number_shared = search sendable

place_shared : IsSync (denote.Plain.UInt mir.Syntax.w16)
place_shared = search sendable

wide_shared : IsSync (denote.Struct.Field.i64-field).row
wide_shared = search sendable

table_field_shared : IsSync (table.the_field).row
table_field_shared = search (sendable, table_shared) depth 10

step_shared : IsSync step.the_row
step_shared =
    recorded_sync _ _ _ (step.the_type).to_one (enum_sync (enums.shape step.the_type) (
    one operand.the_field_sync and tt and one wide_shared and tt and one operand.the_field_sync
    and one number_shared and one number_shared and one number_shared and one number_shared and (place_shared and one number_shared)
    and (operator.the_field_sync and one operand.the_field_sync)
    and (operator.the_field_sync and operand.the_field_sync and one operand.the_field_sync)
    and (operator.the_field_sync and operand.the_field_sync and one operand.the_field_sync)
    and one operator.the_field_sync and one operator.the_field_sync and one number_shared and one number_shared and tt
    and (operand.the_field_sync and one table_field_shared) and one table_field_shared
    and (operator.the_field_sync and one number_shared) and tt
    ))

pub code_shared : IsSync (code.the_field).row
code_shared = struct_sync (shape code.the_type) (Vec-sync _ step_shared, (Vec-sync _ datum_row_shared, (search sendable, tt)))
