use Rattle.std.proofs.Common.{◌≡◌, length}
use Rattle.serde_json.specs.Data.{no_members}
use Rattle.serde_json.specs.Find.{get_member}
use Rattle.fp_base.specs.Sorted.{IsSorted}
use Rattle.fp_definition.specs.Spelled.{spelled, AreWithin}
use Rattle.fp_definition.proofs.variants.narrowed.Given as goal

-- what is left is in order, and what is found in it is found in all
abbrev pub invariant-loop-left : goal.invariant-loop-left
invariant-loop-left l =
    IsSorted (spelled l.text l.left no_members)
    × (get_member l.name (spelled l.text l.left no_members) ≡ get_member l.name (spelled l.text l.variants no_members))
    × AreWithin l.text l.left

abbrev pub decreases-loop-left : goal.decreases-loop-left
decreases-loop-left l = length l.left
