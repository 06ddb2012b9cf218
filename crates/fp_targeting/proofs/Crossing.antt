-- Rules may cross threads.
use denote.Param.Send.{IsSend, IsSync, sendable, view_send, view_sync, recorded_send, recorded_sync, struct_send, struct_sync}
use denote.Struct.Declared.{shape}
use Rattle.std.proofs.Crossing.{Arc-send, Arc-sync}
use Rattle.fp_machine.proofs.Crossing.{code_sent, code_shared}
use Rattle.fp_machine.specs.contracts.code.Code as code
use Rattle.fp_targeting.specs.contracts.rule.Rule as rule
use Rattle.fp_targeting.specs.contracts.rule.Rule.TheInside as rule_inside

code_row_sent : IsSend code.the_row
code_row_sent = search (sendable, code_sent) depth 10

code_row_shared : IsSync code.the_row
code_row_shared = search (sendable, code_shared) depth 10

pub rule_sent : IsSend rule.the_row
rule_sent = view_send _ _ _ _ _
    (recorded_send _ _ _ (rule_inside.the_type).to_one
    (struct_send (shape rule_inside.the_type) (Arc-send _ code_row_sent code_row_shared, tt)))

pub rule_shared : IsSync rule.the_row
rule_shared = view_sync _ _ _ _ _
    (recorded_sync _ _ _ (rule_inside.the_type).to_one
    (struct_sync (shape rule_inside.the_type) (Arc-sync _ code_row_sent code_row_shared, tt)))
