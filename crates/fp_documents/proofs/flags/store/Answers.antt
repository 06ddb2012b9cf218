use Rattle.std.proofs.Common.{◌≡◌, length, sym, ap, ◌∙◌, arith}
use Rattle.std.specs.FinMap as fin
use Rattle.fp_definition.specs.Key.{key_bytes}
use Rattle.fp_documents.specs.Entries.{flags_of}
use Rattle.fp_documents.specs.Flags.{cost, cost_found}
use Rattle.fp_documents.specs.declared.flags.Flag.{Flag}
use Rattle.fp_documents.proofs.Maps.{flags_of-insert, get-flags_of}
use Rattle.fp_documents.proofs.flags.store.Goals as goal

pub returns-in-Ok-Some-clause-stored : goal.returns-in-Ok-Some-clause-stored
returns-in-Ok-Some-clause-stored c = ap flags_of c.in-Ok-Some.ensures.entries ∙
    flags_of-insert c.args.flags.now.entries c.args.key c.args.flag

pub returns-in-Ok-None-clause-stored : goal.returns-in-Ok-None-clause-stored
returns-in-Ok-None-clause-stored c = ap flags_of c.in-Ok-None.ensures.entries ∙
    flags_of-insert c.args.flags.now.entries c.args.key c.args.flag

pub returns-in-Ok-Some-clause-before : goal.returns-in-Ok-Some-clause-before
returns-in-Ok-Some-clause-before c =
    let k = key_bytes c.args.key in
    let f : Flag = c.in-Ok-Some.before in
    let found : cost_found k (fin.get (flags_of c.args.flags.now.entries) k) ≡ cost (k, f) =
    ap (cost_found k) (get-flags_of c.args.flags.now.entries k ∙ sym c.in-Ok-Some.ensures.old ∙ c.in-Ok-Some.field-0-is) in
    let name : length c.as_str-len.result.now ≡ length k = ap length c.as_str-len.ensures in
    let text : length c.text.result.now ≡ length f.definition = ap length c.text.ensures.text in
    omega arith

pub returns-in-Ok-None-clause-before : goal.returns-in-Ok-None-clause-before
returns-in-Ok-None-clause-before c =
    let k = key_bytes c.args.key in
    sym (ap (cost_found k) (get-flags_of c.args.flags.now.entries k ∙ sym c.in-Ok-None.ensures.old ∙ c.in-Ok-None.field-0-is))
