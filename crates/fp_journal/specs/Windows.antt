-- A part of a disk's bytes that was read.
use Rattle.std.specs.Prelude.{◌≤◌, ◌+◌, ℕ, List, length}
use Rattle.fp_journal.specs.Holds.{Holds}
use Rattle.fp_journal.specs.declared.window.Window.{Window}

-- it has the place, or ends there
pub record IsWindowAt (w : Window) (at : ℕ) : Type 0 where
  pub from : w.at ≤ at
  pub to : at ≤ w.at + length w.bytes.items

-- its bytes are those that stand there
abbrev pub StandsIn : Window → List ℕ → Type 0
StandsIn w c = Holds c w.at w.bytes.items
