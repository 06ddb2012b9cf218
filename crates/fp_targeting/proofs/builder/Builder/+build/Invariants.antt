use Rattle.std.proofs.Common.{◌≡◌, ◌≤◌, ◌<◌, ◌+◌, ◌*◌, length, drop}
use Rattle.fp_base.specs.Count.{count, items_count}
use Rattle.fp_base.specs.TreeView.{tree_view, tree_items}
use Rattle.fp_targeting.specs.Compiles.{AreCompiled}
use Rattle.fp_targeting.specs.Emits.{Keeps, Decides}
use Rattle.fp_machine.specs.declared.operator.Operator.TheVariants.{If}
use Rattle.fp_targeting.proofs.builder.Builder.+build.Given as goal

-- code of the arguments from here on was added
abbrev pub invariant-each_kept-arguments : goal.invariant-each_kept-arguments
invariant-each_kept-arguments l = record {
  within : l.left ≤ length l.arguments;
  made : AreCompiled (λ rs. Keeps (l.height + l.left) rs l.fn.self.code l.self.code) (tree_items (drop l.left l.arguments));
}

abbrev pub decreases-each_kept-arguments : goal.decreases-each_kept-arguments
decreases-each_kept-arguments l = l.left

abbrev pub invariant-conditions-conditions : goal.invariant-conditions-conditions
invariant-conditions-conditions l = record {
  within : l.left < length l.arguments;
  end : l.end ≡ length l.fn.self.code.steps.items;
  made : AreCompiled (λ rs. Decides l.operator l.height rs l.fn.self.code l.self.code) (tree_items (drop l.left l.arguments));
}

abbrev pub decreases-conditions-conditions : goal.decreases-conditions-conditions
decreases-conditions-conditions l = l.left

abbrev pub invariant-branches-pairs : goal.invariant-branches-pairs
invariant-branches-pairs l = record {
  within : 2 * l.pairs ≤ length l.arguments;
  end : l.end ≡ length l.fn.self.code.steps.items;
  made : AreCompiled (λ rs. Decides If l.height rs l.fn.self.code l.self.code) (tree_items (drop (2 * l.pairs) l.arguments));
}

abbrev pub decreases-branches-pairs : goal.decreases-branches-pairs
decreases-branches-pairs l = l.pairs

-- ---- values that are left, and how far a function stands above that of a value

abbrev pub decreases-compute : goal.decreases-compute
decreases-compute l = 16 * count (tree_view l.json.now)

abbrev pub decreases-each_kept : goal.decreases-each_kept
decreases-each_kept l = 16 * items_count (tree_items l.arguments.now) + 2

abbrev pub decreases-list : goal.decreases-list
decreases-list l = 16 * items_count (tree_items l.items.now) + 4

abbrev pub decreases-one_kept : goal.decreases-one_kept
decreases-one_kept l = 16 * count (tree_view l.argument.now) + 1

abbrev pub decreases-apply : goal.decreases-apply
decreases-apply l = 16 * items_count (tree_items l.arguments.now) + 12

abbrev pub decreases-split : goal.decreases-split
decreases-split l = 16 * items_count (tree_items l.arguments.now) + 10

abbrev pub decreases-taken : goal.decreases-taken
decreases-taken l = 16 * items_count (tree_items l.arguments.now) + 10

abbrev pub decreases-branches : goal.decreases-branches
decreases-branches l = 16 * items_count (tree_items l.arguments.now) + 8

abbrev pub decreases-conditions : goal.decreases-conditions
decreases-conditions l = 16 * items_count (tree_items l.arguments.now) + 8

abbrev pub decreases-var : goal.decreases-var
decreases-var l = 16 * items_count (tree_items l.arguments.now) + 8

abbrev pub decreases-few : goal.decreases-few
decreases-few l = 16 * items_count (tree_items l.arguments.now) + 8

abbrev pub decreases-otherwise : goal.decreases-otherwise
decreases-otherwise l = 16 * items_count (tree_items l.arguments.now) + 6

abbrev pub decreases-found : goal.decreases-found
decreases-found l = 16 * items_count (tree_items l.arguments.now) + 6

abbrev pub decreases-find : goal.decreases-find
decreases-find l = 16 * count (tree_view l.path.now) + 4

abbrev pub decreases-split_by : goal.decreases-split_by
decreases-split_by l = 16 * count (tree_view l.bucketing.now) + 4

abbrev pub decreases-one : goal.decreases-one
decreases-one l = 16 * count (tree_view l.a.now) + 4

abbrev pub decreases-two : goal.decreases-two
decreases-two l = 16 * (count (tree_view l.a.now) + count (tree_view l.b.now)) + 6

abbrev pub decreases-second : goal.decreases-second
decreases-second l = 16 * (count (tree_view l.a.now) + count (tree_view l.b.now)) + 4

abbrev pub decreases-three : goal.decreases-three
decreases-three l = 16 * (count (tree_view l.a.now) + count (tree_view l.b.now) + count (tree_view l.c.now)) + 6

abbrev pub decreases-third : goal.decreases-third
decreases-third l = 16 * (count (tree_view l.a.now) + count (tree_view l.b.now) + count (tree_view l.c.now)) + 4
