use Rattle.std.proofs.Common.{◌≡◌, [], ap, ◌∙◌, rules, length, arith}
use Rattle.std.specs.Ordering.{is_lt}
use Rattle.std.proofs.lemmas.List.Sorted.{answers_always, ranks_by}
use Rattle.fp_base.specs.Gathered.{laid}
use Rattle.fp_base.specs.TreeView.{Entry, tree_members}
use Rattle.fp_base.proofs.Gatherings.{laid-sorted, names_total}
use Rattle.fp_base.proofs.gathering.sorted.Goals as goal

pub returns : goal.returns
returns c =
    let xs = c.args.members.items in
    let ys = c.sort_by.new.self.items in
    let sorted = c.in_ok-sort_by.ensures in
    let len : length ys ≡ length xs = grind arith in
    let none : c.in_ok-none.none.items ≡ [] = search rules in
    let stable = sorted.stable _ (ranks_by names_total (λ (p : Entry). p.0)) (answers_always _ _ _ (λ f a r f' k. ap is_lt k.met)) in
    c.in_ok-found.ensures ∙ ap (λ es. laid (tree_members es) ys) none ∙ laid-sorted xs ys len stable
