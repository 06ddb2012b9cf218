use Rattle.std.proofs.Common.{◌≡◌, length, sym, ap, subst, ◌∙◌}
use Rattle.serde_json.specs.Data.{no_members, put}
use Rattle.fp_base.specs.Gathered.{laid}
use Rattle.fp_base.specs.Sorted.{IsSorted}
use Rattle.fp_base.specs.TreeView.{tree_view, tree_members}
use Rattle.fp_base.proofs.Gatherings.{laid-last, none-falls, none-ordered, none-waits}
use Rattle.fp_base.proofs.Sorted.{sorted-put}
use Rattle.fp_base.proofs.gathering.Gathered.put_falling.Goals as goal

pub returns-then-comes_before_last-clause-members : goal.returns-then-comes_before_last-clause-members
returns-then-comes_before_last-clause-members c =
    laid-last (tree_members c.args.self.now.ordered.items) c.args.self.now.waiting.items c.push.new.self.items
    (c.args.name, c.args.tree) c.in_ok-push.ensures.items

pub returns-clause-members : goal.returns-clause-members
returns-clause-members c =
    let name = c.args.name.now in
    let t = tree_view c.args.tree in
    let waiting = c.args.self.now.waiting.items in
    let left : length c.replace-falling.new.dest.items ≡ 0 =
    ap (λ v. length v.items) c.replace-falling.ensures.after ∙ ap length c.new.ensures.items in
    let made : tree_members c.turned.result.items ≡ laid no_members waiting = c.turned.ensures.members ∙
    ap (λ v. laid no_members v.items) c.replace-falling.ensures.value in
    none-waits (tree_members c.put_in_order.new.members.items) c.replace-falling.new.dest.items left
    ∙ c.in_ok-put_in_order.ensures
    ∙ ap (put name t) (made ∙ sym (none-ordered c.args.self.now.ordered.items waiting c.requires.none))

pub returns-clause-kept : goal.returns-clause-kept
returns-clause-kept c =
    let left : length c.replace-falling.new.dest.items ≡ 0 =
    ap (λ v. length v.items) c.replace-falling.ensures.after ∙ ap length c.new.ensures.items in (
      subst IsSorted (sym c.in_ok-put_in_order.ensures)
          (sorted-put c.args.name.now (tree_view c.args.tree) (tree_members c.turned.result.items)
          c.turned.ensures.sorted),
      λ h. none-falls c.replace-falling.new.dest.items left,
    )
