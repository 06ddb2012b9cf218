-- The bytes of a disk, by their places.
use Rattle.std.specs.Prelude.{◌≡◌, ◌≢◌, ◌<◌, ◌≤◌, ◌+◌, ◌/◌, ℕ, List, ◌∷◌, ◌++◌, length}
use Rattle.std.specs.Prelude.{slice_index, codes}
use Rattle.std.specs.Int.{w32, w64, to_be_bytes}
use Rattle.fp_journal.specs.Holds.{Holds}
use Rattle.fp_journal.specs.declared.slot.Slot.{Slot}
use Rattle.fp_slots.specs.Head.{IsVersion}
use Rattle.fp_slots.specs.Rules.{HasGeneration, Rules}
use Rattle.fp_slots.specs.Numbers.{VERSION_PLACE, BASE_PLACE, LENGTH_PLACE}
use Rattle.fp_slots.specs.Numbers.{IMAGE_PLACE}
use Rattle.fp_layout.specs.Numbers.{BASES_END}
use Rattle.fp_layout.specs.Numbers.{HEADER, HEADER_VERSION}
use Rattle.fp_layout.specs.Numbers.{HEADER_VERSION_PLACE}
use Rattle.fp_layout.specs.Numbers.{SIZE_PLACE, ZEROS_PLACE}
use Rattle.fp_layout.specs.Size.{IsSlotSize, Side, other_side, slot_of}
use Rattle.fp_gate.specs.Numbers.{OPEN}

abbrev pub magic : List ℕ
magic = codes "FLAGPLN1"

-- every byte from this place up to the stop is 0
abbrev pub AreZeros : List ℕ → ℕ → ℕ → Type 0
AreZeros c from stop = (k : ℕ) → from ≤ k → k < stop → slice_index c k ≡ 0

-- this one is the first that isn't
pub record IsFirstOther (c : List ℕ) (from stop at : ℕ) : Type 0 where
  pub after : from ≤ at
  pub before : at < stop
  pub other : slice_index c at ≢ 0
  pub zeros : AreZeros c from at

-- ---- the header
-- its gate is open, and behind it stands the magic text
pub record IsFormatted (c : List ℕ) : Type 0 where
  pub long : HEADER ≤ length c
  pub gate : slice_index c 0 ≡ OPEN
  pub magic_text : Holds c 1 magic

-- a disk with slots of this size
pub record IsHeader (c : List ℕ) (size : ℕ) : Type 0 where
  pub formatted : IsFormatted c
  pub version : slice_index c HEADER_VERSION_PLACE ≡ HEADER_VERSION
  pub size_text : Holds c SIZE_PLACE (to_be_bytes w64 size)
  pub allowed : IsSlotSize size
  pub zeros : AreZeros c ZEROS_PLACE HEADER
  pub long : HEADER + 1 + size ≤ length c

-- ---- the head of the slot that begins at this place, behind its gate
-- this version, one that is read
pub record HasVersion (c : List ℕ) (at version : ℕ) : Type 0 where
  pub long : at + BASE_PLACE ≤ length c
  pub is : slice_index c (at + VERSION_PLACE) ≡ version
  pub known : IsVersion version

-- its image is one of this revision
pub record HasBase (c : List ℕ) (at base : ℕ) : Type 0 where
  pub text : Holds c (at + BASE_PLACE) (to_be_bytes w64 base)
  pub small : base < BASES_END

-- and has this many bytes, half the slot's at most
pub record HasLength (c : List ℕ) (at size len : ℕ) : Type 0 where
  pub text : Holds c (at + LENGTH_PLACE) (to_be_bytes w32 len)
  pub small : len ≤ size / 2

-- so it stands there, up to an image of so many bytes
abbrev pub front_text : (version generation base len : ℕ) → List ℕ
front_text version generation base len =
    OPEN ∷ (to_be_bytes w64 generation
    ++ version ∷ (to_be_bytes w64 base ++ to_be_bytes w32 len))

-- all of it
pub record IsHead (c : List ℕ) (at size version generation base : ℕ) (image : List ℕ)
    : Type 0 where
  pub generation_is : HasGeneration at generation c
  pub version_is : HasVersion c at version
  pub base_is : HasBase c at base
  pub length_is : HasLength c at size (length image)
  pub image_text : Holds c (at + IMAGE_PLACE) image

-- these two are the slots of a disk, and the first of them rules
pub record IsActive (c : List ℕ) (size : ℕ) (slot other : Slot) : Type 0 where
  pub side : Side
  pub slot_is : slot ≡ slot_of size side
  pub other_is : other ≡ slot_of size (other_side side)
  pub rules : Rules slot.start other.start c

-- a header is there, these are the disk's two slots, and the first is of this version and rules
-- under this generation
pub record HasSlots (c : List ℕ) (slot other : Slot) (version generation : ℕ) : Type 0 where
  pub size : ℕ
  pub header : IsHeader c size
  pub active : IsActive c size slot other
  pub version_is : HasVersion c slot.start version
  pub generation_is : HasGeneration slot.start generation c
