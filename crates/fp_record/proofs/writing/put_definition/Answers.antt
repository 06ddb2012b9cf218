use Rattle.std.proofs.Common.{◌≤◌, length, arith}
use Rattle.fp_record.proofs.Texts.{definition_short}
use Rattle.fp_definition.specs.declared.definition.TheConstants.{LONGEST_DEFINITION}
use Rattle.fp_record.proofs.writing.put_definition.Goals as goal

pub overflow_cast-text : goal.overflow_cast-text
overflow_cast-text c =
    let short : length c.args.definition.now ≤ LONGEST_DEFINITION = definition_short c.args.definition.now c.text-text.ensures.canonical in
    rw c.text-text.ensures.text (omega arith)
