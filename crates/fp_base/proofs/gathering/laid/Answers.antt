use Rattle.std.proofs.Common.{◌≡◌, [], ◌∷◌, length, sym, ap, ◌∙◌, subst, arith}
use Rattle.std.proofs.lemmas.List.{drop_all}
use Rattle.std.specs.Vec.Iter.{into_iter_items}
use Rattle.fp_base.specs.Gathered.{laid}
use Rattle.fp_base.specs.Sorted.{IsSorted}
use Rattle.fp_base.specs.TreeView.{Entry, tree_view, tree_members}
use Rattle.fp_base.proofs.Sorted.{sorted-put}
use Rattle.fp_base.proofs.gathering.laid.Goals as goal

pub loop-name-preserved : goal.loop-name-preserved
loop-name-preserved c =
    let l = c.loop-name in
    let e : Entry = (c.in-Some.name, c.in-Some.tree) in
    let left = into_iter_items c.next.new.self in
    let ms = tree_members l.all.items in
    let steps = c.in-Some.ensures.steps in
    let here : into_iter_items l.name-iterator ≡ e ∷ left = steps.0 in
    let gone = steps.1 in
    let short = ap length here in
    let was = l.invariant.0 in
    let placed = c.in_ok-put_next.ensures in (
      omega arith,
      ap (λ ns. laid ns left) placed ∙ ap (laid ms) (sym here) ∙ l.invariant.1,
      subst IsSorted (sym placed) (sorted-put e.0.now (tree_view e.1) ms l.invariant.2),
    )

pub returns : goal.returns
returns c =
    let l = c.loop-name in
    let none = c.in-None.ensures.steps.0 in
    let was = l.invariant.0 in
    let over : into_iter_items l.name-iterator ≡ [] = drop_all 0 (into_iter_items l.name-iterator) (omega arith) in
    ap (laid (tree_members l.all.items)) (sym over) ∙ l.invariant.1
