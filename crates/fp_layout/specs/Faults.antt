-- Why bytes are no disk. Each fault comes where those before it don't.
use Rattle.std.specs.Prelude.{◌≡◌, ◌≢◌, ◌<◌, ◌≤◌, ◌+◌, ◌^◌, ℕ, List, length, slice_index}
use Rattle.std.specs.Int.{w64, to_be_bytes}
use Rattle.fp_journal.specs.Holds.{Holds}
use Rattle.fp_journal.specs.declared.chain.ChainFault.{ChainFault}
use Rattle.fp_journal.specs.declared.chain.ChainFault.TheVariants as chain_fault
use Rattle.fp_journal.specs.declared.pieces.BytesFault.{BytesFault}
use Rattle.fp_journal.specs.declared.pieces.BytesFault.TheVariants as bytes_fault
use Rattle.fp_layout.specs.Size.{IsSlotSize}
use Rattle.fp_slots.specs.declared.choosing.SlotFault.{SlotFault}
use Rattle.fp_slots.specs.declared.choosing.SlotFault.TheVariants as slot_fault
use Rattle.fp_slots.specs.Numbers.{GENERATION_PLACE, VERSION_PLACE, BASE_PLACE}
use Rattle.fp_slots.specs.Numbers.{LENGTH_PLACE, IMAGE_PLACE}
use Rattle.fp_layout.specs.Layout.{IsFormatted, IsFirstOther, AreZeros, HasVersion, HasBase}
use Rattle.fp_layout.specs.Layout.{HasLength}
use Rattle.fp_layout.specs.Numbers.{HEADER, HEADER_VERSION}
use Rattle.fp_layout.specs.Numbers.{HEADER_VERSION_PLACE}
use Rattle.fp_layout.specs.Numbers.{SIZE_PLACE, ZEROS_PLACE}
use Rattle.fp_layout.specs.declared.fault.OpenFault.{OpenFault}
use Rattle.fp_layout.specs.declared.fault.OpenFault.TheVariants.{Unformatted, UnknownVersion}
use Rattle.fp_layout.specs.declared.fault.OpenFault.TheVariants.{Damaged, Device, Memory}

-- ---- the header, in which the number at the size's place is this one;
-- k is the first byte to show the damage
pub data BreaksHeader (c : List ℕ) (size k : ℕ) : Type 0 where
  bad_size : (IsSlotSize size → ⊥) → k ≡ SIZE_PLACE → BreaksHeader c size k
  not_zero : IsSlotSize size → IsFirstOther c ZEROS_PLACE HEADER k → BreaksHeader c size k
  too_short : IsSlotSize size → AreZeros c ZEROS_PLACE HEADER → length c < HEADER + 1 + size
      → k ≡ length c → BreaksHeader c size k

abbrev pub RefusesHeader : List ℕ → OpenFault → Type 0
RefusesHeader c Unformatted = IsFormatted c → ⊥
RefusesHeader c (UnknownVersion v) =
    IsFormatted c × (slice_index c HEADER_VERSION_PLACE ≡ v) × (v ≢ HEADER_VERSION)
RefusesHeader c (Damaged at) = IsFormatted c
    × (slice_index c HEADER_VERSION_PLACE ≡ HEADER_VERSION)
    × ((size : ℕ) × (size < 2 ^ 64) × Holds c SIZE_PLACE (to_be_bytes w64 size)
    × BreaksHeader c size at)
RefusesHeader c Device = ⊥
RefusesHeader c Memory = ⊥

-- ---- the head of the slot that begins at this place. A field that passes the end of the bytes, or
-- has a value that isn't allowed, shows it at its own first byte
pub data BreaksHead (c : List ℕ) (at size k : ℕ) : Type 0 where
  no_generation : length c < at + VERSION_PLACE → k ≡ at + GENERATION_PLACE → BreaksHead c at size k
  no_version : at + VERSION_PLACE ≤ length c → ((version : ℕ) → HasVersion c at version → ⊥)
      → k ≡ at + VERSION_PLACE → BreaksHead c at size k
  no_base : (version : ℕ) → HasVersion c at version → ((base : ℕ) → HasBase c at base → ⊥)
      → k ≡ at + BASE_PLACE → BreaksHead c at size k
  no_length : (version base : ℕ) → HasVersion c at version → HasBase c at base
      → ((len : ℕ) → HasLength c at size len → ⊥) → k ≡ at + LENGTH_PLACE → BreaksHead c at size k
  no_image : (version base len : ℕ) → HasVersion c at version → HasBase c at base
      → HasLength c at size len → length c < at + IMAGE_PLACE + len → k ≡ at + IMAGE_PLACE
      → BreaksHead c at size k

abbrev pub IsDamage : (ℕ → Type 0) → OpenFault → Type 0
IsDamage P Unformatted = ⊥
IsDamage P (UnknownVersion v) = ⊥
IsDamage P (Damaged at) = P at
IsDamage P Device = ⊥
IsDamage P Memory = ⊥

-- this of the fault, unless the device refused or memory ran out
abbrev pub UnlessWanting : (OpenFault → Type 0) → OpenFault → Type 0
UnlessWanting P Unformatted = P Unformatted
UnlessWanting P (UnknownVersion v) = P (UnknownVersion v)
UnlessWanting P (Damaged at) = P (Damaged at)
UnlessWanting P Device = Unit {0}
UnlessWanting P Memory = Unit {0}

-- ---- other faults as faults of opening
abbrev pub fault_of_bytes : BytesFault → OpenFault
fault_of_bytes bytes_fault.Device = Device
fault_of_bytes bytes_fault.Memory = Memory

abbrev pub fault_of_chain : ChainFault → OpenFault
fault_of_chain (chain_fault.Damaged at) = Damaged at
fault_of_chain chain_fault.Device = Device
fault_of_chain chain_fault.Memory = Memory

abbrev pub fault_of_slots : SlotFault → OpenFault
fault_of_slots (slot_fault.Damaged at) = Damaged at
