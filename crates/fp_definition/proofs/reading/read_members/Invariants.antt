use Rattle.std.proofs.Common.{◌≡◌, ◌≤◌, ◌-◌, ◌++◌, List, ℕ, length, None, false, option_map}
use Rattle.serde_json.specs.Data.{Members}
use Rattle.fp_base.specs.Sorted.{IsSorted}
use Rattle.fp_base.specs.TreeView.{tree_members}
use Rattle.fp_canonical.specs.Reads.{ReadsMembers, is_some_there}
use Rattle.fp_canonical.proofs.Next.{AreLeft}
use Rattle.fp_canonical.proofs.Read.{AreReadBehind}
use Rattle.fp_definition.specs.Beside.{IsTold, members_with, targeting_in}
use Rattle.fp_definition.specs.Numbers.{DEEPEST_DEFINITION}
use Rattle.fp_definition.specs.Spelled.{AreNoted}
use Rattle.fp_definition.proofs.reading.read_members.Given as goal

-- where all members can be read, some are left; what was noted stands in what was passed
abbrev pub invariant-members : goal.invariant-members
invariant-members l =
    AreReadBehind (DEEPEST_DEFINITION - 1) (is_some_there l.found.items) (members_with (targeting_in l.noted.other) l.found.items)
    l.initial.cursor l.cursor
    × IsSorted (tree_members l.found.items)
    × (length l.cursor ≤ length l.initial.cursor)
    × ((ms : Members) (left : List ℕ) → l.other ≡ None → ReadsMembers (DEEPEST_DEFINITION - 1) false ms l.initial.cursor left →
    IsSorted ms → AreLeft (DEEPEST_DEFINITION - 1) l.found.items l.cursor left)
    × ((before : List ℕ) → l.len ≡ length (before ++ l.initial.cursor) →
    (passed : List ℕ)
    × (before ++ l.initial.cursor ≡ passed ++ l.cursor)
    × ((more : Members) → AreNoted passed (option_map (λ v. v.items) l.noted.variants) l.noted.places more
    (members_with (targeting_in l.noted.other) l.found.items more)))
    × IsTold l.noted.other l.found.items
    × (l.other ≡ None → l.noted.other ≡ None)

abbrev pub decreases-members : goal.decreases-members
decreases-members l = length l.cursor
