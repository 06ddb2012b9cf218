use Rattle.std.proofs.Common.{◌≡◌, ◌≤◌, take, vec_len}
use Rattle.std.specs.Vec.{vec_capacity}
use Rattle.fp_edit.specs.Following.{changes_of}
use Rattle.fp_desk.proofs.queue.copies_of_front.Given as goal

abbrev pub invariant-loop-i : goal.invariant-loop-i
invariant-loop-i l = (changes_of l.copies.items ≡ changes_of (take l.i l.waiting.items)) × (vec_len l.copies ≡ l.i) ×
    (l.n ≤ vec_capacity l.copies)
