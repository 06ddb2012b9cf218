use Rattle.std.proofs.Common.{◌≡◌, Some, is_some, sym, ap, ap₂, ◌∙◌}
use Rattle.std.proofs.lemmas.Result.{err_from_is_err_and}
use Rattle.std.specs.Option.{option_copied_mut}
use Rattle.std.specs.FinMap as map
use Rattle.fp_documents.specs.Entries.{flags_of}
use Rattle.fp_definition.specs.Key.{key_bytes}
use Rattle.fp_documents.specs.declared.flags.Flag.{Flag}
use Rattle.fp_documents.proofs.Maps.{flags_of-set, get-flags_of}
use Rattle.fp_edit.proofs.walks.put.Goals as goal
use Rattle.fp_edit.proofs.walks.put.Goals.{After-replace}

found : (c : After-replace) → map.get (flags_of c.args.flags.now.entries) (key_bytes c.args.key.now) ≡ Some c.in-Some.found.now
found c =
    let k = key_bytes c.args.key.now in
    get-flags_of c.args.flags.now.entries k ∙ sym c.get_mut.ensures.value ∙ ap option_copied_mut c.in-Some.is

pub returns-in-Some-clause-put : goal.returns-in-Some-clause-put
returns-in-Some-clause-put c =
    let a = (goal.at.returns-in-Some-clause-put c).After-replace in
    let f : Flag = record { definition = c.swap.new.x; changed = c.replace.new.dest } in
    let k = key_bytes c.args.key.now in
    let m = flags_of c.args.flags.now.entries in
    ap flags_of (c.get_mut.follows.holds f).0
    ∙ flags_of-set c.args.flags.now.entries c.args.key.now f (ap is_some (found a))
    ∙ ap₂ (λ d n. map.insert m k (record { definition = d; changed = n })) c.swap.ensures.x_after c.replace.ensures.after

pub returns-in-Some-clause-before : goal.returns-in-Some-clause-before
returns-in-Some-clause-before c =
    found (goal.at.returns-in-Some-clause-before c).After-replace
    ∙ ap₂ (λ d n. Some (record { definition = d; changed = n })) (sym c.swap.ensures.y_after) (sym c.replace.ensures.value)

pub returns-in_err-add-clause-new : goal.returns-in_err-add-clause-new
returns-in_err-add-clause-new c =
    let k = key_bytes c.args.key.now in
    let p = err_from_is_err_and c.from_residual.result c.from_residual.ensures.1 in
    rw p.1 (get-flags_of c.args.flags.now.entries k ∙ sym c.get_mut.ensures.value ∙ ap option_copied_mut c.in_default.is)

pub returns-clause-before : goal.returns-clause-before
returns-clause-before c =
    let k = key_bytes c.args.key.now in
    get-flags_of c.args.flags.now.entries k ∙ sym c.get_mut.ensures.value ∙ ap option_copied_mut c.in_default.is
