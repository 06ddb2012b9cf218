use Rattle.std.proofs.Common.{◌≡◌, length, sym, ap, subst, ◌∙◌, arith}
use Rattle.serde_json.specs.Data.{put}
use Rattle.fp_base.specs.Places.{AreBefore}
use Rattle.fp_base.specs.Sorted.{IsSorted}
use Rattle.fp_base.specs.TreeView.{Entry, tree_view, tree_members}
use Rattle.fp_base.proofs.Gatherings.{none-falls, none-waits, put-at_end}
use Rattle.fp_base.proofs.Sorted.{sorted-put}
use Rattle.fp_base.proofs.gathering.Gathered.put.Goals as goal

pub returns-then-comes_last-clause-members : goal.returns-then-comes_last-clause-members
returns-then-comes_last-clause-members c =
    let m : Entry = (c.args.name, c.args.tree) in
    let ms = c.args.self.now.ordered.items in
    let waiting = c.args.self.now.waiting.items in
    let none : length waiting ≡ 0 = grind arith in
    let placed = put-at_end ms c.push.new.self.items m
    (subst (AreBefore c.args.name.now) c.deref.ensures.value (c.comes_last.ensures c.if-comes_last.true))
    c.in_ok-push.ensures.items in
    none-waits (tree_members c.push.new.self.items) waiting none ∙ placed
    ∙ ap (put m.0.now (tree_view m.1)) (sym (none-waits (tree_members ms) waiting none))

pub returns-then-comes_last-clause-kept : goal.returns-then-comes_last-clause-kept
returns-then-comes_last-clause-kept c =
    let m : Entry = (c.args.name, c.args.tree) in
    let ms = c.args.self.now.ordered.items in
    let placed = put-at_end ms c.push.new.self.items m
    (subst (AreBefore c.args.name.now) c.deref.ensures.value (c.comes_last.ensures c.if-comes_last.true))
    c.in_ok-push.ensures.items in
    let waiting = c.args.self.now.waiting.items in
    let none : length waiting ≡ 0 = grind arith in
    (subst IsSorted (sym placed) (sorted-put m.0.now (tree_view m.1) (tree_members ms) c.requires.0), λ h. none-falls waiting none)
