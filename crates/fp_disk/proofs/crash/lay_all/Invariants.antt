use Rattle.std.proofs.Common.{◌≡◌, ◌≤◌, ◌<◌, ℕ, [], length, take, slice_index}
use Rattle.fp_disk.specs.Crash.{byte_after_writes}
use Rattle.fp_disk.specs.Memory.{writes_after}
use Rattle.fp_disk.proofs.crash.lay_all.Given as goal

abbrev pub invariant-loop-call : goal.invariant-loop-call
invariant-loop-call l = record {
  len : length l.left ≡ length l.initial.left;
  number : l.number ≡ length (writes_after [] (take l.call-index l.calls));
  within : l.number ≤ l.call-index;
  places : (k : ℕ) → k < length l.initial.left →
      slice_index l.left k ≡ byte_after_writes l.fills l.rest (writes_after [] (take l.call-index l.calls)) k
      (slice_index l.initial.left k);
}
