-- What was read of a disk's slots, as far as the batches of the one that rules.
use Rattle.std.specs.Prelude.{◌≡◌, ◌↔◌, ◌<◌, ◌≤◌, ◌+◌, ◌/◌, ◌^◌, ℕ, IsTrue, List, length}
use Rattle.std.specs.Prelude.{slice_index}
use Rattle.fp_gate.specs.Numbers.{OPEN}
use Rattle.fp_journal.specs.Holds.{Holds}
use Rattle.fp_slots.specs.Head.{IsVersion}
use Rattle.fp_slots.specs.Rules.{IsRuling}
use Rattle.fp_slots.specs.Numbers.{IMAGE_PLACE}
use Rattle.fp_layout.specs.Size.{IsSlotSize, Side, other_side, slot_of}
use Rattle.fp_layout.specs.Layout.{HasSlots, front_text}
use Rattle.fp_layout.specs.Opening.{FoundFront, ReadsImage}
use Rattle.fp_layout.specs.Numbers.{BASES_END}
use Rattle.fp_layout.specs.declared.opening.Ruling.{Ruling}
use Rattle.fp_layout.specs.declared.opening.Front.{Front}

-- ---- the head
-- these are two slots of this size, and the text is that of a head,
-- whose image ends within so many bytes
pub record IsHeadOn (size len : ℕ) (r : Ruling) : Type 0 where
  pub allowed : IsSlotSize size
  pub side : Side
  pub slot_is : r.slot ≡ slot_of size side
  pub other_is : r.other ≡ slot_of size (other_side side)
  pub text_is : r.text
      ≡ front_text r.head.version r.head.generation r.head.base r.head.len
  pub known : IsVersion r.head.version
  pub numbered : r.head.generation < 2 ^ 64
  pub low : r.head.base < BASES_END
  pub small : r.head.len ≤ size / 2
  pub within : r.slot.start + IMAGE_PLACE + r.head.len ≤ len

-- the slot rules in these bytes, and the text stands there
pub record StandsIn (r : Ruling) (c : List ℕ) : Type 0 where
  pub ruling : IsRuling r.slot.start r.other.start r.is_open c
  pub text : Holds c r.slot.start r.text

-- ---- the image too
-- the reader has begun with it, and reading goes on behind it
pub record IsFrontOn {R : Type 0} (begins : R → ℕ → ℕ → ℕ → List ℕ → R → Type 0)
    (before after : R) (p : Front) : Type 0 where
  pub read : ReadsImage begins before after p.slot p.other p.version p.generation p.text
  pub place : p.at ≡ p.slot.start + length p.text
  pub within : p.at ≤ p.len

-- all of that stands in these bytes
pub record FoundIn {R : Type 0} (begins : R → ℕ → ℕ → ℕ → List ℕ → R → Type 0) (before after : R)
    (p : Front) (c : List ℕ) : Type 0 where
  pub front : FoundFront begins c before after p.slot p.at
  pub slots : HasSlots c p.slot p.other p.version p.generation
  pub gate : IsTrue p.is_open ↔ (slice_index c p.other.start ≡ OPEN)
  pub text : Holds c p.slot.start p.text
  pub long : p.len ≡ length c
