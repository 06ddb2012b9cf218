use Rattle.std.proofs.Common.{◌≡◌, [], length, sym, ap, subst, ◌∙◌, arith, rules}
use Rattle.fp_base.specs.Gathered.{laid}
use Rattle.fp_base.specs.Sorted.{IsSorted}
use Rattle.fp_base.specs.TreeView.{tree_view, tree_members}
use Rattle.fp_base.proofs.Gatherings.{laid-last, none-falls}
use Rattle.fp_base.proofs.Sorted.{sorted-put}
use Rattle.fp_base.proofs.gathering.Gathered.put_apart.Goals as goal

pub returns-then-waiting-lt-MOST_WAITING-clause-members : goal.returns-then-waiting-lt-MOST_WAITING-clause-members
returns-then-waiting-lt-MOST_WAITING-clause-members c =
    laid-last (tree_members c.args.self.now.ordered.items) c.args.self.now.waiting.items c.push.new.self.items
    (c.args.name, c.args.tree) c.in_ok-push.ensures.items

pub returns-clause-members : goal.returns-clause-members
returns-clause-members c =
    let ms = tree_members c.args.self.now.ordered.items in
    let none : c.replace-waiting.new.dest.items ≡ [] = search rules in
    let settled : tree_members c.in_ok-self.field-0.items ≡ laid ms c.push.new.self.items = search rules in
    ap (laid (tree_members c.in_ok-self.field-0.items)) none ∙ settled
    ∙ laid-last ms c.args.self.now.waiting.items c.push.new.self.items (c.args.name, c.args.tree) c.in_ok-push.ensures.items

pub returns-then-len-le-MOST_MOVED-clause-kept : goal.returns-then-len-le-MOST_MOVED-clause-kept
returns-then-len-le-MOST_MOVED-clause-kept c =
    let waiting = c.args.self.now.waiting.items in
    let none : length waiting ≡ 0 = grind arith in
    let ms = tree_members c.args.self.now.ordered.items in (
      subst IsSorted (sym c.in_ok-put_in_order.ensures) (sorted-put c.args.name.now (tree_view c.args.tree) ms c.requires.sorted),
      λ h. none-falls waiting none,
    )
