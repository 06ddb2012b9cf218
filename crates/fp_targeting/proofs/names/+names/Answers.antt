use Rattle.std.proofs.Common.{◌≡◌, ◌≢◌, get_or, length, is_some, sym, ap, ◌∙◌, arith}
use Rattle.serde_json.specs.Data.{object}
use Rattle.fp_base.specs.TreeView.{tree_view, tree_members}
use Rattle.fp_base.proofs.Views.{view-Object}
use Rattle.fp_targeting.specs.Compile.{first_unknown}
use Rattle.fp_targeting.proofs.Leaves.{known-plain, others-plain}
use Rattle.fp_targeting.proofs.Trees.{only-Object, unknown-unnamed, unknown-named}
use Rattle.fp_targeting.proofs.names.+names.Goals as goal

pub unknown_operator-returns-then-members-ne1 : goal.unknown_operator-returns-then-members-ne1
unknown_operator-returns-then-members-ne1 t c =
    let v = c.in-Object.members in
    let others : length v.now ≢ 1 = grind (arith, c.if-members-ne1.true) in
    sym (ap first_unknown (ap tree_view c.in-Object.is ∙ view-Object v) ∙
    known-plain (object (tree_members v.now)) (others-plain v.now others))

pub unknown_operator-returns-then-is_none : goal.unknown_operator-returns-then-is_none
unknown_operator-returns-then-is_none t c =
    let v = c.in-Object.members in
    let m = get_or v.now 0 c.index-members-0.result in
    let here : m ≡ get_or v.now 0 m = ap (get_or v.now 0) c.index-members-0.is in
    let one : length v.now ≡ 1 = grind (arith, c.if-members-ne1.false) in
    sym (ap first_unknown (ap tree_view c.in-Object.is ∙ only-Object v m one here)
    ∙ unknown-unnamed m.0.now (tree_view m.1) (sym (ap is_some c.named.ensures) ∙ c.if-is_none.ensures))

pub unknown_operator-returns-else-is_none : goal.unknown_operator-returns-else-is_none
unknown_operator-returns-else-is_none t c =
    let v = c.in-Object.members in
    let m = get_or v.now 0 c.index-members-0.result in
    let here : m ≡ get_or v.now 0 m = ap (get_or v.now 0) c.index-members-0.is in
    let one : length v.now ≡ 1 = grind (arith, c.if-members-ne1.false) in
    c.unknown_operator.ensures
    ∙ sym (ap first_unknown (ap tree_view c.in-Object.is ∙ only-Object v m one here)
    ∙ unknown-named m.0.now (tree_view m.1) (sym (ap is_some c.named.ensures) ∙ c.if-is_none.ensures))
