use Rattle.std.proofs.Common.{◌≡◌, ◌≤◌, [], drop, length}
use Rattle.std.specs.Prelude.{slice_range}
use Rattle.fp_ofrep.specs.Tag.{has_tag}
use Rattle.fp_ofrep.proofs.tag.lists_tag.Given as goal

-- what stands since the last comma, and what is left, decide for all
abbrev pub invariant-loop-at : goal.invariant-loop-at
invariant-loop-at l =
    (l.start ≤ l.at)
    × (l.at ≤ length l.field)
    × (has_tag l.tag (slice_range l.field l.start l.at) (drop l.at l.field) ≡ has_tag l.tag [] l.field)
