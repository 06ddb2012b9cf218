use Rattle.std.proofs.Common.{ℕ, take}
use Rattle.fp_edit.specs.Admits.{parts_after}
use Rattle.fp_edit.specs.Flags.{Flags}
use Rattle.fp_edit.specs.Lent.{lent_parts}
use Rattle.fp_pending.specs.Noted.{AreNoted}
use Rattle.fp_pending.proofs.costs.note_edit.Given as goal

-- the parts that were passed are noted
abbrev pub invariant-loop-i : goal.invariant-loop-i
invariant-loop-i l =
    (r : ℕ) (before after : Flags) → AreNoted l.fn.noted before after →
    AreNoted l.noted before (parts_after r after (take l.i (lent_parts l.parts)))
