-- Text that stands in a list of bytes.
use Rattle.std.specs.Prelude.{◌≡◌, ◌⊎◌, ◌<◌, ◌≤◌, ◌+◌, ℕ, List, length, slice_index}
use Rattle.fp_disk.specs.Outcomes.{PendingState, Covers}

-- from this place on c reads as the text
pub record Holds (c : List ℕ) (at : ℕ) (text : List ℕ) : Type 0 where
  pub long : at + length text ≤ length c
  pub same : (k : ℕ) → k < length text → slice_index c (at + k) ≡ slice_index text k

-- the last sync made sure of the text, and no write since reached it
pub record IsSynced (u : PendingState) (at : ℕ) (text : List ℕ) : Type 0 where
  pub holds : Holds u.synced at text
  pub untouched : (k : ℕ) → at ≤ k → k < at + length text → Covers u.ranges k → ⊥

-- the n bytes from this place on, and the m bytes from that one on, share none
abbrev pub Apart : ℕ → ℕ → ℕ → ℕ → Type 0
Apart from n at m = (from + n ≤ at) ⊎ (at + m ≤ from)
