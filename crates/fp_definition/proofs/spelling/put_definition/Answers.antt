use Rattle.std.proofs.Common.{◌≡◌, OnOk, sym, ap, subst, ◌∙◌, option_map}
use Rattle.std.proofs.lemmas.Result.{on_ok_weaker}
use Rattle.serde_json.specs.Data.{Members, no_members, object}
use Rattle.fp_base.specs.Printed.{IsPrinted}
use Rattle.fp_base.specs.TreeView.{tree_view}
use Rattle.fp_base.proofs.Views.{view-Object}
use Rattle.fp_definition.specs.Spelled.{AreNoted}
use Rattle.fp_definition.proofs.spelling.put_definition.Goals as goal

pub returns-in-Object-clause-printed : goal.returns-in-Object-clause-printed
returns-in-Object-clause-printed c =
    let seen = ap tree_view c.in-Object.is ∙ view-Object c.in-Object.members in
    subst (λ d. OnOk c.put_members.result (IsPrinted d)) (sym seen) c.put_members.ensures.printed

same : (ms ns : Members) → object ms ≡ object ns → ms ≡ ns
same ms ns h = cc

pub returns-in-Object-clause-noted : goal.returns-in-Object-clause-noted
returns-in-Object-clause-noted c =
    let seen = ap tree_view c.in-Object.is ∙ view-Object c.in-Object.members in
    let before = c.args.spelled.now in let after = c.put_members.new.spelled in
    on_ok_weaker c.put_members.result
    (λ h ms is. subst (λ ns. AreNoted before.text.items (option_map (λ v. v.items) before.variants)
    before.places ns ns
    → AreNoted after.text.items (option_map (λ v. v.items) after.variants) after.places no_members ns)
    (same _ ms (sym seen ∙ is)) h) c.put_members.ensures.noted
