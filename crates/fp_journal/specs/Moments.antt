-- Firm text that a call doesn't reach.
use Rattle.std.specs.Prelude.{ℕ, List, length}
use Rattle.fp_disk.specs.Outcomes.{PendingState, LeavesOnly}
use Rattle.fp_disk.specs.declared.disk.Disk.{Ghosts}
use Rattle.fp_journal.specs.Holds.{Holds, IsSynced}

-- Text at a place that Out allows, firm before, is firm afterwards,
-- and a crash at any moment between leaves it
abbrev pub KeepsFirm : {D : Type 0} (moment : D → ℕ) (crash_states_since : D → ℕ → List ℕ → Type 0)
    (unsynced : D → PendingState) (old new : D) → (Out : ℕ → ℕ → Type 0) → Type 0
KeepsFirm moment crash_states_since unsynced old new Out = (at : ℕ) (text : List ℕ) →
    Out at (length text) → IsSynced (unsynced old) at text
    → IsSynced (unsynced new) at text
    × LeavesOnly moment crash_states_since old new (λ c. Holds c at text)

-- Text at a place that Out allows is read as it was
abbrev pub KeepsHeld : {D : Type 0} (bytes : D → List ℕ) (old new : D) → (Out : ℕ → ℕ → Type 0) →
    Type 0
KeepsHeld bytes old new Out = (at : ℕ) (text : List ℕ) → Out at (length text) →
    Holds (bytes old) at text → Holds (bytes new) at text

-- the same of a disk that keeps its word
abbrev pub KeepsSynced : {D : Type 0} → Ghosts D → (old new : D) → (Out : ℕ → ℕ → Type 0) → Type 0
KeepsSynced disk old new Out =
    disk.honest old → KeepsFirm disk.moment disk.crash_states_since disk.unsynced old new Out

abbrev pub KeepsRead : {D : Type 0} → Ghosts D → (old new : D) → (Out : ℕ → ℕ → Type 0) → Type 0
KeepsRead disk old new Out = disk.honest old → KeepsHeld disk.bytes old new Out
