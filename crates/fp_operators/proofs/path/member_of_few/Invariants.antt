use Rattle.std.proofs.Common.{◌≡◌}
use Rattle.std.specs.List.Sorted.{IsStrictlySortedBy}
use Rattle.std.specs.Map.{keys_of}
use Rattle.std.specs.String.{string_cmp}
use Rattle.fp_operators.specs.View.{members_view}
use Rattle.fp_operators.specs.Path.{member_at}
use Rattle.fp_operators.proofs.path.member_of_few.Given as goal

-- the name names among all members what it names among those that are left, which ascend
abbrev pub invariant-loop-key : goal.invariant-loop-key
invariant-loop-key l =
    (member_at l.name (members_view l.members.entries) ≡ member_at l.name (members_view l.key-iterator))
    × IsStrictlySortedBy string_cmp (keys_of l.key-iterator)
