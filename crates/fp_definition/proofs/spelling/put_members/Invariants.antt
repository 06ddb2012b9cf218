use Rattle.std.proofs.Common.{◌≡◌, ◌++◌, true, false, drop, option_map}
use Rattle.serde_json.specs.Written.{members_text}
use Rattle.fp_base.specs.Printed.{AreMembersPrinted}
use Rattle.fp_base.specs.TreeView.{tree_members}
use Rattle.fp_base.specs.Whole.{members_whole}
use Rattle.fp_definition.specs.Spelled.{AreNoted}
use Rattle.fp_definition.proofs.spelling.put_members.Given as goal

-- what is left decides for all
abbrev pub invariant-loop-member : goal.invariant-loop-member
invariant-loop-member l =
    (members_whole (tree_members (drop l.member-index l.members)) ≡ true)
    × (l.spelled.text.items ++ members_text l.later (tree_members (drop l.member-index l.members)) ≡
    l.initial.spelled.text.items ++ members_text false (tree_members l.members))
    × (AreMembersPrinted l.later (tree_members (drop l.member-index l.members)) → AreMembersPrinted false (tree_members l.members))
    × (AreNoted l.initial.spelled.text.items (option_map (λ v. v.items) l.initial.spelled.variants)
    l.initial.spelled.places (tree_members l.members) (tree_members l.members)
    → AreNoted l.spelled.text.items (option_map (λ v. v.items) l.spelled.variants) l.spelled.places
    (tree_members (drop l.member-index l.members)) (tree_members l.members))
