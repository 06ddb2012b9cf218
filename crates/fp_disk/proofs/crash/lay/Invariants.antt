use Rattle.std.proofs.Common.{◌≡◌, ◌≤◌, ◌<◌, ◌-◌, ℕ, length, slice_index}
use Rattle.fp_disk.specs.Crash.{byte_of_fill}
use Rattle.fp_disk.proofs.crash.lay.Given as goal

abbrev pub invariant-loop-place : goal.invariant-loop-place
invariant-loop-place l = record {
  len : length l.left ≡ length l.initial.left;
  laid : (k : ℕ) → l.first ≤ k → k < l.place →
      slice_index l.left k ≡ byte_of_fill l.fill k (slice_index l.initial.left k) (slice_index l.bytes (k - l.first));
  before : (k : ℕ) → k < l.first → slice_index l.left k ≡ slice_index l.initial.left k;
  behind : (k : ℕ) → l.place ≤ k → slice_index l.left k ≡ slice_index l.initial.left k;
}
