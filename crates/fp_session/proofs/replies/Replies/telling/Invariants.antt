use Rattle.std.proofs.Common.{◌≤◌, ◌-◌, length}
use Rattle.fp_session.specs.Progress.{IsToldUpTo}
use Rattle.fp_session.proofs.replies.Replies.telling.Given as goal

-- the first of them are told
abbrev pub invariant-loop-i : goal.invariant-loop-i
invariant-loop-i l = record {
  within : l.i ≤ length l.self.waiting.items;
  told : IsToldUpTo l.fn.is_kept l.self.waiting.items l.telling l.i;
}

abbrev pub decreases-loop-i : goal.decreases-loop-i
decreases-loop-i l = length l.self.waiting.items - l.i
