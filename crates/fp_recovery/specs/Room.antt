-- Disks that have no room for one batch more.
use Rattle.std.specs.Prelude.{◌≡◌, ◌⊎◌, ◌<◌, ◌+◌, ℕ, List}
use Rattle.std.specs.List.{AllByRecursion}
use Rattle.fp_disk.specs.Outcomes.{PendingState, IsOutcome}
use Rattle.fp_edit.specs.Flags.{State}
use Rattle.fp_journal.specs.Numbers.{FRAME}
use Rattle.fp_layout.specs.Size.{slot_of}
use Rattle.fp_record.specs.Encoding.{batch_len}
use Rattle.fp_record.specs.Group.{Group}
use Rattle.fp_recovery.specs.Stands.{IsAllowed, StandsFor, gate_of}

-- A slot of this version, which takes bodies of so many bytes at most and has so many left, has no
-- room for the batch, which with its gate, the number of its length and the gate behind it takes six
-- bytes more; or a change of it has no place in one of that version
abbrev pub HasNoRoom : ℕ → ℕ → ℕ → Group → Type 0
HasNoRoom most left version group = (most < batch_len group) ⊎ (left < FRAME + batch_len group)
    ⊎ (AllByRecursion (IsAllowed version) group.changes → ⊥)

-- the bytes stand for the set in that generation, and the batch is longer than their slot takes, or
-- would reach past its end, or has a change that has no place in it
pub record IsFullFor (c : List ℕ) (s : State) (group : Group) (generation : ℕ) : Type 0 where
  pub stands : StandsFor c s
  pub full : ((slot_of stands.size stands.side).most < batch_len group)
      ⊎ ((slot_of stands.size stands.side).stop < gate_of stands + (FRAME + batch_len group))
      ⊎ (AllByRecursion (IsAllowed stands.spells.version) group.changes → ⊥)
  pub generation_is : stands.spells.generation ≡ generation

-- so is whatever a crash leaves now
abbrev pub IsFull : PendingState → State → Group → ℕ → Type 0
IsFull u s group generation = (c : List ℕ) → IsOutcome u c → IsFullFor c s group generation
