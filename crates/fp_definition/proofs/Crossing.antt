-- Definitions may cross threads.
use denote.Param.Send.{IsSend, IsSync, sendable, view_send, view_sync, recorded_send, recorded_sync, struct_send, struct_sync}
use denote.Struct.Declared.{shape}
use Rattle.std.proofs.Crossing.{crosses, Arc-send, Arc-sync}
use Rattle.fp_targeting.proofs.Crossing.{rule_sent, rule_shared}
use Rattle.fp_definition.specs.contracts.choice.Choice as choice
use Rattle.fp_definition.specs.contracts.definition.Definition as definition
use Rattle.fp_definition.specs.contracts.definition.Definition.TheInside as definition_inside
use Rattle.fp_definition.specs.contracts.definition.Kept as kept
use Rattle.fp_definition.specs.contracts.spelling.Variant as variant

variant_sent : IsSend (variant.the_field).row
variant_sent = struct_send (shape variant.the_type) (search (sendable, crosses) depth 20, (search sendable depth 10, tt))

variant_shared : IsSync (variant.the_field).row
variant_shared = struct_sync (shape variant.the_type)
    (search (sendable, crosses) depth 20, (search sendable depth 10, tt))

choice_sent : IsSend (choice.the_field).row
choice_sent = struct_send (shape choice.the_type) (
  search sendable,
  (
    search (sendable, crosses) depth 20,
    (search (sendable, crosses, variant_sent) depth 20, (search sendable depth 20, tt)),
  ),
)

choice_shared : IsSync (choice.the_field).row
choice_shared = struct_sync (shape choice.the_type) (
  search sendable,
  (
    search (sendable, crosses) depth 20,
    (search (sendable, crosses, variant_shared) depth 20, (search sendable depth 20, tt)),
  ),
)

kept_sent : IsSend kept.the_row
kept_sent = recorded_send _ _ _ (kept.the_type).to_one
    (struct_send (shape kept.the_type)
    (search (sendable, crosses) depth 20, (choice_sent, (search (sendable, rule_sent) depth 20, tt))))

kept_shared : IsSync kept.the_row
kept_shared = recorded_sync _ _ _ (kept.the_type).to_one
    (struct_sync (shape kept.the_type)
    (search (sendable, crosses) depth 20, (choice_shared, (search (sendable, rule_shared) depth 20, tt))))

pub definition_sent : IsSend definition.the_row
definition_sent = view_send _ _ _ _ _
    (recorded_send _ _ _ (definition_inside.the_type).to_one
    (struct_send (shape definition_inside.the_type) (Arc-send _ kept_sent kept_shared, tt)))

pub definition_shared : IsSync definition.the_row
definition_shared = view_sync _ _ _ _ _
    (recorded_sync _ _ _ (definition_inside.the_type).to_one
    (struct_sync (shape definition_inside.the_type) (Arc-sync _ kept_sent kept_shared, tt)))
