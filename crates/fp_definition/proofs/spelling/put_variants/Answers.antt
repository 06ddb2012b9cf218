use Rattle.std.proofs.Common.{◌≡◌, Some, OnOk, sym, ap, subst, ◌∙◌}
use Rattle.std.proofs.lemmas.Result.{IfOk-weaker}
use Rattle.serde_json.specs.Data.{Members, object}
use Rattle.fp_base.specs.Printed.{IsPrinted}
use Rattle.fp_base.specs.TreeView.{tree_view}
use Rattle.fp_base.proofs.Views.{view-Object}
use Rattle.fp_definition.specs.Spelled.{AreAt}
use Rattle.fp_definition.proofs.spelling.put_variants.Goals as goal

pub returns-in-Object-clause-printed : goal.returns-in-Object-clause-printed
returns-in-Object-clause-printed c =
    let seen = ap tree_view c.in-Object.is ∙ view-Object c.in-Object.members in
    subst (λ d. OnOk c.put_noting.result (IsPrinted d)) (sym seen) c.put_noting.ensures.printed

same : (ms ns : Members) → Some (object ms) ≡ Some (object ns) → ms ≡ ns
same ms ns h = cc

pub returns-in-Object-clause-noted : goal.returns-in-Object-clause-noted
returns-in-Object-clause-noted c =
    let seen = ap tree_view c.in-Object.is ∙ view-Object c.in-Object.members in
    IfOk-weaker c.put_noting.result _ _
    (λ vs h ms is. subst (AreAt c.put_noting.new.text.items vs.items) (same _ ms (sym (ap Some seen) ∙ is)) h)
    c.put_noting.ensures.noted
