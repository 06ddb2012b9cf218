use Rattle.std.proofs.Common.{◌≡◌, ◌++◌, true, false, drop}
use Rattle.serde_json.specs.Written.{members_text}
use Rattle.fp_base.specs.Printed.{AreMembersPrinted}
use Rattle.fp_base.specs.TreeView.{tree_members}
use Rattle.fp_base.specs.Whole.{members_whole}
use Rattle.fp_definition.specs.Spelled.{AreWithin, spelled, texts}
use Rattle.fp_definition.proofs.spelling.put_noting.Given as goal

-- what is left decides for all, and what was noted stands before it
abbrev pub invariant-loop-member : goal.invariant-loop-member
invariant-loop-member l =
    (members_whole (tree_members (drop l.member-index l.members)) ≡ true)
    × (l.text.items ++ members_text l.later (tree_members (drop l.member-index l.members)) ≡ l.initial.text.items ++
    members_text false (tree_members l.members))
    × (AreMembersPrinted l.later (tree_members (drop l.member-index l.members)) → AreMembersPrinted false (tree_members l.members))
    × (spelled l.text.items l.variants.items (texts (tree_members (drop l.member-index l.members))) ≡ texts (tree_members l.members))
    × AreWithin l.text.items l.variants.items
