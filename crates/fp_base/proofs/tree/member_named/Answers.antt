use Rattle.std.proofs.Common.{◌≡◌, ◌+◌, ◌∷◌, drop, sym, ap, ◌∙◌, arith}
use Rattle.serde_json.specs.Find.{get_member}
use Rattle.fp_base.specs.TreeView.{tree_view, tree_members}
use Rattle.fp_base.proofs.Named.{found-here, found-later}
use Rattle.fp_base.proofs.Turns.{drop-here}
use Rattle.fp_base.proofs.tree.member_named.Goals as goal

pub returns-then-is_same : goal.returns-then-is_same
returns-then-is_same c =
    let xs = c.args.members.now in
    let i = c.loop-member.member-index in
    let m = c.member-item.result in
    let name = c.args.name.now in
    let here : drop i xs ≡ m ∷ drop (i + 1) xs = drop-here xs i m (omega arith) c.member-item.is in
    sym (found-here name m.0.now (tree_view m.1) (tree_members (drop (i + 1) xs)) (sym c.is_same.ensures ∙ c.if-is_same.true))
    ∙ ap (λ ys. get_member name (tree_members ys)) (sym here)
    ∙ c.loop-member.invariant

pub loop-member-preserved : goal.loop-member-preserved
loop-member-preserved c =
    let xs = c.args.members.now in
    let i = c.loop-member.member-index in
    let m = c.member-item.result in
    let name = c.args.name.now in
    let here : drop i xs ≡ m ∷ drop (i + 1) xs = drop-here xs i m (omega arith) c.member-item.is in
    sym (found-later name m.0.now (tree_view m.1) (tree_members (drop (i + 1) xs)) (sym c.is_same.ensures ∙ c.if-is_same.false))
    ∙ ap (λ ys. get_member name (tree_members ys)) (sym here)
    ∙ c.loop-member.invariant
