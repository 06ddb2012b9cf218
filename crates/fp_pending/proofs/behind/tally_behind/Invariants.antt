use Rattle.std.proofs.Common.{take}
use Rattle.fp_edit.specs.Following.{changes_of}
use Rattle.fp_pending.specs.Following.{Follows, set_behind}
use Rattle.fp_pending.specs.Tallies.{IsTallyOf}
use Rattle.fp_edit.specs.Log.{after_all}
use Rattle.fp_pending.specs.Noted.{IsNoted}
use Rattle.fp_pending.proofs.behind.tally_behind.Given as goal

-- the edits so far are accepted, the numbers are those of the set that they lead to, and what its flags take is noted
abbrev pub invariant-loop-i : goal.invariant-loop-i
invariant-loop-i l =
    Follows (after_all l.set (changes_of l.ahead)) (changes_of (take l.i l.edits))
    × IsTallyOf l.now (set_behind l.set l.ahead (take l.i l.edits))
    × IsNoted l.costs l.set (set_behind l.set l.ahead (take l.i l.edits))
