-- What a crash may leave.
use Rattle.std.specs.Prelude.{◌≡◌, ◌⊎◌, ◌<◌, ◌≤◌, ◌+◌, ℕ, max, List, [], ◌∷◌, ◌++◌, length}
use Rattle.std.specs.Prelude.{slice_index, take, drop, replicate, ◌-◌, Result, IsOk, IsErr}
use Rattle.std.specs.List.{All}
use Rattle.fp_disk.specs.declared.disk.DiskFault.{DiskFault}

-- a byte is a number from 0 to 255
abbrev pub IsByte : ℕ → Type 0
IsByte b = b < 256

abbrev pub AreBytes : List ℕ → Type 0
AreBytes c = All IsByte c

-- `synced` is what the last sync made sure of, `ranges` where it was written since, each by its
-- first place and how many, and no outcome is longer than `reach`
pub record PendingState : Type 0 where
  pub synced : List ℕ
  pub ranges : List (ℕ × ℕ)
  pub reach : ℕ

-- place k lies in one of the ranges
abbrev pub Covers : List (ℕ × ℕ) → ℕ → Type 0
Covers [] k = ⊥
Covers (r ∷ rs) k = ((r.0 ≤ k) × (k < r.0 + r.1)) ⊎ Covers rs k

-- A crash may leave these bytes: no fewer than are synced and no more than were written,
-- the synced ones wherever nothing was written since
pub record IsOutcome (u : PendingState) (c : List ℕ) : Type 0 where
  pub bytes : AreBytes c
  pub no_shorter : length u.synced ≤ length c
  pub no_longer : length c ≤ u.reach
  pub kept : (k : ℕ) → k < length u.synced → (Covers u.ranges k → ⊥) →
      slice_index c k ≡ slice_index u.synced k

-- after a sync
abbrev pub all_synced : List ℕ → PendingState
all_synced bytes = record { synced = bytes; ranges = []; reach = length bytes }

-- after n bytes were written at this place, or a part of them
abbrev pub with_write : PendingState → ℕ → ℕ → PendingState
with_write u at n = record {
  synced = u.synced;
  ranges = (at, n) ∷ u.ranges;
  reach = max u.reach (at + n);
}

-- these bytes with others at this place, and zeros in a gap
abbrev pub with_bytes_at : List ℕ → ℕ → List ℕ → List ℕ
with_bytes_at old at more = take at (old ++ replicate (at - length old) 0) ++ more
    ++ drop (at + length more) old

-- new is old with these bytes at this place
abbrev pub Written : List ℕ → ℕ → List ℕ → List ℕ → Type 0
Written old at more new = new ≡ with_bytes_at old at more

-- new is old but for these places, and ends no later than it or they do:
-- what a write leaves that did a part of its work
pub record ChangesWithin (old : List ℕ) (at n : ℕ) (new : List ℕ) : Type 0 where
  pub no_shorter : length old ≤ length new
  pub no_longer : length new ≤ max (length old) (at + n)
  pub outside : (k : ℕ) → k < length old → ((at ≤ k) × (k < at + n) → ⊥) →
      slice_index new k ≡ slice_index old k

-- Time goes on: a crash since t might have left what it might have left before,
-- or what it may leave now
pub record Elapses (before now : ℕ) (past since : ℕ → List ℕ → Type 0)
    (outcomes : List ℕ → Type 0) : Type 0 where
  pub later : before ≤ now
  pub nothing_else : (t : ℕ) (c : List ℕ) → t ≤ before → since t c → past t c ⊎ outcomes c
  pub keeps : (t : ℕ) (c : List ℕ) → t ≤ before → past t c → since t c

-- a fault is answered exactly where the count of failures rose
pub record CountsFaults {T : Type 0} (before now : ℕ) (result : Result T DiskFault) : Type 0 where
  pub well : IsOk result → now ≡ before
  pub ill : IsErr result → before < now

-- A crash at any moment since `old` leaves what has P:
-- since its moment nothing else could be left, and since an earlier one only what could be before
pub record LeavesOnly {D : Type 0} (moment : D → ℕ) (crash_states_since : D → ℕ → List ℕ → Type 0)
    (old new : D) (P : List ℕ → Type 0) : Type 0 where
  pub later : moment old ≤ moment new
  pub each : (c : List ℕ) → crash_states_since new (moment old) c → P c
  pub before : (t : ℕ) (c : List ℕ) → t ≤ moment old → crash_states_since new t c →
      crash_states_since old t c ⊎ P c
