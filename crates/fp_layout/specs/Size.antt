-- The sizes that a slot may have.
use Rattle.std.specs.Prelude.{◌≤◌, ◌+◌, ◌-◌, ◌/◌, ℕ, IsTrue}
use Rattle.std.specs.Int.{is_power_of_two}
use Rattle.fp_journal.specs.declared.slot.Slot.{Slot}
use Rattle.fp_journal.specs.Numbers.{FRAME}
use Rattle.fp_layout.specs.Numbers.{HEADER}
use Rattle.fp_layout.specs.Numbers.{LARGEST_SLOT, SMALLEST_SLOT}

pub record IsSlotSize (bytes : ℕ) : Type 0 where
  pub power : IsTrue (is_power_of_two bytes)
  pub least : SMALLEST_SLOT ≤ bytes
  pub greatest : bytes ≤ LARGEST_SLOT

-- the longest body that a slot of so many bytes takes:
-- a batch with its length and its two gates has an eighth of them at most
abbrev pub most_in : ℕ → ℕ
most_in bytes = bytes / 8 - FRAME

-- the slot behind the header
abbrev pub first_slot : ℕ → Slot
first_slot bytes = record { start = HEADER; stop = HEADER + bytes; most = most_in bytes }

-- the slot behind that one
abbrev pub second_slot : ℕ → Slot
second_slot bytes =
    record { start = HEADER + bytes; stop = HEADER + bytes + bytes; most = most_in bytes }

-- which of the two
pub data Side : Type 0 where
  first : Side
  second : Side

abbrev pub other_side : Side → Side
other_side first = second
other_side second = first

abbrev pub slot_of : ℕ → Side → Slot
slot_of bytes first = first_slot bytes
slot_of bytes second = second_slot bytes
