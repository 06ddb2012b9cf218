use Rattle.std.proofs.Common.{◌≡◌, ◌++◌, true, false, drop}
use Rattle.serde_json.specs.Written.{items_text, members_text}
use Rattle.fp_base.specs.Printed.{AreItemsPrinted, AreMembersPrinted}
use Rattle.fp_base.specs.TreeView.{tree_items, tree_members}
use Rattle.fp_base.specs.Whole.{items_whole, members_whole}
use Rattle.fp_base.proofs.writing.+puts.Given as goal

-- what is left decides for all
abbrev pub invariant-put_items-loop-item : goal.invariant-put_items-loop-item
invariant-put_items-loop-item l =
    (items_whole (tree_items (drop l.item-index l.items)) ≡ true)
    × (l.out.items ++ items_text l.later (tree_items (drop l.item-index l.items)) ≡ l.initial.out.items ++
    items_text false (tree_items l.items))
    × (AreItemsPrinted l.later (tree_items (drop l.item-index l.items)) → AreItemsPrinted false (tree_items l.items))

abbrev pub invariant-put_members-loop-member : goal.invariant-put_members-loop-member
invariant-put_members-loop-member l =
    (members_whole (tree_members (drop l.member-index l.members)) ≡ true)
    × (l.out.items ++ members_text l.later (tree_members (drop l.member-index l.members)) ≡ l.initial.out.items
    ++ members_text false (tree_members l.members))
    × (AreMembersPrinted l.later (tree_members (drop l.member-index l.members)) →
    AreMembersPrinted false (tree_members l.members))
