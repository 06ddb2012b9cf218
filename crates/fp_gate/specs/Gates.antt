-- What holds at the place of a gate, and at those that it guards, whatever a crash leaves.
use Rattle.std.specs.Prelude.{◌≡◌, ◌≢◌, ◌<◌, ◌≤◌, ℕ, List, length, slice_index}
use Rattle.fp_disk.specs.Outcomes.{PendingState, IsOutcome}
use Rattle.fp_disk.specs.Checked.{Mark}
use Rattle.fp_gate.specs.Numbers.{OPEN}

-- the place of a gate, and the first that it guards and the one behind the last
pub record Gated : Type 0 where
  pub at : ℕ
  pub from : ℕ
  pub to : ℕ

-- A sync of the disk of this name, no later than now.
-- The clock of a disk that isn't honest says nothing
abbrev pub IsSyncOf : {D : Type 0} (honest : D → Type 0) (moment : D → ℕ) → D → ℕ → Mark → Type 0
IsSyncOf honest moment disk name mark = (mark.disk ≡ name)
    × (honest disk → mark.moment ≤ moment disk)

-- its byte is there and isn't a5, whatever a crash leaves
abbrev pub IsShut : PendingState → ℕ → Type 0
IsShut u at = (c : List ℕ) → IsOutcome u c → (at < length c) × (slice_index c at ≢ OPEN)

-- its byte is a5, whatever a crash leaves
abbrev pub IsOpen : PendingState → ℕ → Type 0
IsOpen u at = (c : List ℕ) → IsOutcome u c → (at < length c) × (slice_index c at ≡ OPEN)

-- these places are there
abbrev pub Agrees : ℕ → ℕ → List ℕ → List ℕ → Type 0
Agrees from to bytes c = (k : ℕ) → from ≤ k → k < to → (k < length c)
    × (slice_index c k ≡ slice_index bytes k)

-- these places are there and as they are read, whatever a crash leaves
abbrev pub StaysAsRead : PendingState → List ℕ → ℕ → ℕ → Type 0
StaysAsRead u bytes from to = (c : List ℕ) → IsOutcome u c → Agrees from to bytes c

-- where the gate is open, what it guards is there
abbrev pub Guards : Gated → List ℕ → List ℕ → Type 0
Guards g bytes c = (g.at < length c) × (slice_index c g.at ≡ OPEN → Agrees g.from g.to bytes c)

-- an outcome, but for the byte at one place
pub record IsButFor (u : PendingState) (at : ℕ) (c : List ℕ) : Type 0 where
  pub before : List ℕ
  pub outcome : IsOutcome u before
  pub same_length : length c ≡ length before
  pub elsewhere : (k : ℕ) → (k ≡ at → ⊥) → slice_index c k ≡ slice_index before k
