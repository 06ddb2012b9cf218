use Rattle.std.proofs.Common.{◌≡◌, length}
use Rattle.std.specs.Vec.Iter.{into_iter_items, into_iter_len}
use Rattle.fp_base.specs.Gathered.{laid}
use Rattle.fp_base.specs.Sorted.{IsSorted}
use Rattle.fp_base.specs.TreeView.{tree_members}
use Rattle.fp_base.proofs.gathering.laid.Given as goal

-- what is left makes of the members so far what all make
abbrev pub invariant-loop-name : goal.invariant-loop-name
invariant-loop-name l =
    (length (into_iter_items l.name-iterator) ≡ into_iter_len l.name-iterator)
    × (laid (tree_members l.all.items) (into_iter_items l.name-iterator) ≡ laid (tree_members l.fn.ordered.items) l.fn.others.items)
    × IsSorted (tree_members l.all.items)
