use Rattle.std.proofs.Common.{sym, ◌∙◌}
use Rattle.fp_definition.specs.Key.{key_bytes}
use Rattle.fp_documents.proofs.Maps.{get-flags_of}
use Rattle.fp_documents.proofs.flags.find.Goals as goal

pub returns : goal.returns
returns c = c.get.ensures.value ∙ sym (get-flags_of c.args.flags.now.entries (key_bytes c.args.key.now))
