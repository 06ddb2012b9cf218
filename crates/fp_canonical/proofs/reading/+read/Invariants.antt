use Rattle.std.proofs.Common.{◌+◌, ◌*◌, ◌≤◌, List, ℕ, length, false}
use Rattle.serde_json.specs.Data.{Items, Members}
use Rattle.fp_base.specs.Sorted.{IsSorted}
use Rattle.fp_base.specs.TreeView.{tree_members}
use Rattle.fp_canonical.specs.Reads.{ReadsItems, ReadsMembers}
use Rattle.fp_base.proofs.Read.{items_before}
use Rattle.fp_canonical.proofs.Read.{AreReadSoFar}
use Rattle.fp_canonical.proofs.Next.{AreLeft}
use Rattle.fp_canonical.proofs.reading.+read.Given as goal

abbrev pub decreases-read_value : goal.decreases-read_value
decreases-read_value l = 2 * l.depth

abbrev pub decreases-read_items : goal.decreases-read_items
decreases-read_items l = 2 * l.depth + 1

abbrev pub decreases-read_members : goal.decreases-read_members
decreases-read_members l = 2 * l.depth + 1

-- what is read of the rest is read, behind what was found, of all; and where all can be read, something is left
abbrev pub invariant-read_items-items : goal.invariant-read_items-items
invariant-read_items-items l =
    ((ds : Items) (left : List ℕ) → ReadsItems l.depth l.later ds l.cursor left →
    ReadsItems l.depth false (items_before l.found.items ds) l.initial.cursor left)
    × (length l.cursor ≤ length l.initial.cursor)
    × ((ds : Items) (left : List ℕ) → ReadsItems l.depth false ds l.initial.cursor left →
    (es : Items) × ReadsItems l.depth l.later es l.cursor left)

abbrev pub decreases-read_items-items : goal.decreases-read_items-items
decreases-read_items-items l = length l.cursor

abbrev pub invariant-read_members-members : goal.invariant-read_members-members
invariant-read_members-members l =
    AreReadSoFar l.depth l.found.items l.initial.cursor l.cursor
    × IsSorted (tree_members l.found.items)
    × (length l.cursor ≤ length l.initial.cursor)
    × ((ms : Members) (left : List ℕ) → ReadsMembers l.depth false ms l.initial.cursor left → IsSorted ms →
    AreLeft l.depth l.found.items l.cursor left)

abbrev pub decreases-read_members-members : goal.decreases-read_members-members
decreases-read_members-members l = length l.cursor
