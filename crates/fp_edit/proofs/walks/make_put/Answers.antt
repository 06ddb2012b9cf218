use Rattle.std.proofs.Common.{is_some, sym, ap, ◌∙◌, arith}
use Rattle.std.specs.FinMap as map
use Rattle.fp_documents.specs.Entries.{flags_of}
use Rattle.fp_edit.specs.Flags.{Flags, cost_found, size}
use Rattle.fp_definition.specs.Key.{key_bytes}
use Rattle.fp_edit.specs.Parts.{put, proposed_of}
use Rattle.fp_edit.specs.Puts.{replaced, with_flag}
use Rattle.fp_documents.specs.declared.flags.Flag.{Flag}
use Rattle.fp_edit.proofs.Making.{get-put, definition_put, put_undone}
use Rattle.fp_documents.proofs.Sizes.{size-insert}
use Rattle.fp_edit.proofs.walks.make_put.Goals as goal

pub returns-clause-size : goal.returns-clause-size
returns-clause-size c =
    let m = flags_of c.args.flags.now.entries in
    let k = key_bytes c.in-Put.key in
    let f : Flag = record { definition = c.in-Put.flag; changed = c.args.revision } in
    let made = ap size c.in_ok-before.ensures.put in
    let was = ap (cost_found k) c.in_ok-before.ensures.before in
    let all = size-insert m k f in
    let come = c.cost_of-come.ensures.cost in
    let gone = c.cost_before-gone.ensures.cost in
    omega arith

pub returns-clause-before : goal.returns-clause-before
returns-clause-before c =
    let m = flags_of c.args.flags.now.entries in
    let k = key_bytes c.in-Put.key in
    let f : Flag = record { definition = c.in-Put.flag; changed = c.args.revision } in
    ap (λ (n : Flags). with_flag n k (replaced c.put.new.flag c.in_ok-before.before)) c.in_ok-before.ensures.put
    ∙ ap (with_flag (map.insert m k f) k) (sym c.in_ok-before.ensures.before)
    ∙ put_undone m k f

pub returns-clause-change : goal.returns-clause-change
returns-clause-change c =
    let m = flags_of c.args.flags.now.entries in
    let k = key_bytes c.in-Put.key in
    let e = c.in_ok-before.ensures in
    let text = definition_put m _ k c.in-Put.flag c.put.new.flag c.args.revision c.in_ok-before.before e.put e.kept in
    ap (λ d. record { part = put k d; expect = c.in-Put.expect }) text ∙ ap proposed_of (sym c.in-Put.is)

pub returns-clause-there : goal.returns-clause-there
returns-clause-there c =
    let k = key_bytes c.in-Put.key in
    let f : Flag = record { definition = c.in-Put.flag; changed = c.args.revision } in
    ap (λ (n : Flags). is_some (map.get n k)) c.in_ok-before.ensures.put ∙ ap is_some (get-put (flags_of c.args.flags.now.entries) k f)
