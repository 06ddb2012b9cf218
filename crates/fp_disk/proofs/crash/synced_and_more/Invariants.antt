use Rattle.std.proofs.Common.{◌≡◌, ◌<◌, ℕ, length, slice_index, slice_index_or}
use Rattle.fp_disk.specs.Crash.{byte_of_fill}
use Rattle.fp_disk.proofs.crash.synced_and_more.Given as goal

abbrev pub invariant-loop-place : goal.invariant-loop-place
invariant-loop-place l = record {
  len : length l.left.items ≡ l.place;
  places : (k : ℕ) → k < l.place → slice_index l.left.items k ≡ slice_index_or l.synced k (byte_of_fill l.rest k 0 0);
}
