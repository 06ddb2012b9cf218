use Rattle.std.proofs.Common.{◌+◌, ◌∙◌}
use Rattle.fp_definition.specs.Key.{key_bytes}
use Rattle.fp_edit.proofs.Lending.{room_whenever}
use Rattle.fp_edit.proofs.flag_set.FlagSet.has_room_for.Goals as goal

pub returns : goal.returns
returns c = λ changed. c.has_room.ensures ∙ room_whenever c.args.self.now.flags (key_bytes c.args.key.now)
    c.args.definition.now (c.args.self.now.revision + 1) changed c.args.self.now.limit
