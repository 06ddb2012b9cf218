use Rattle.std.proofs.Common.{sym, ap, ◌∙◌}
use Rattle.fp_documents.specs.Entries.{flags_of}
use Rattle.fp_documents.specs.Flags.{cost_found}
use Rattle.fp_definition.specs.Key.{key_bytes}
use Rattle.fp_documents.proofs.Maps.{flags_of-remove, get-flags_of}
use Rattle.fp_documents.proofs.flags.take.Goals as goal

pub returns-in-Some-clause-before : goal.returns-in-Some-clause-before
returns-in-Some-clause-before c =
    let k = key_bytes c.args.key.now in
    let found = get-flags_of c.args.flags.now.entries k ∙ sym c.remove.ensures.value ∙ c.in-Some.is in
    c.cost_of.ensures.cost ∙ sym (ap (cost_found k) found)

pub returns-in-None-clause-before : goal.returns-in-None-clause-before
returns-in-None-clause-before c =
    let k = key_bytes c.args.key.now in
    sym (ap (cost_found k) (get-flags_of c.args.flags.now.entries k ∙ sym c.remove.ensures.value ∙ c.in-None.is))

pub returns-in-Some-clause-taken : goal.returns-in-Some-clause-taken
returns-in-Some-clause-taken c =
    let es = c.args.flags.now.entries in
    ap flags_of c.in-Some.ensures.entries ∙ flags_of-remove es c.args.key.now c.requires

pub returns-in-None-clause-taken : goal.returns-in-None-clause-taken
returns-in-None-clause-taken c =
    let es = c.args.flags.now.entries in
    ap flags_of c.in-None.ensures.entries ∙ flags_of-remove es c.args.key.now c.requires
