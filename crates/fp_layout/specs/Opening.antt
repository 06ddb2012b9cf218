-- What a disk stands for, as its opening reads it.
use Rattle.std.specs.Prelude.{◌≡◌, ◌<◌, ◌≤◌, ◌+◌, ◌/◌, ◌^◌, ℕ, List, ◌++◌, length, slice_range}
use Rattle.fp_journal.specs.Chain.{spell}
use Rattle.fp_journal.specs.State.{AllShort}
use Rattle.fp_journal.specs.declared.slot.Slot.{Slot}
use Rattle.fp_journal.specs.Reading.{FoundChain, Reads, StopsAt}
use Rattle.fp_slots.specs.Head.{IsVersion, head_text}
use Rattle.fp_slots.specs.Rules.{RulesNeither}
use Rattle.fp_slots.specs.Numbers.{IMAGE_PLACE}
use Rattle.fp_layout.specs.Size.{IsSlotSize, Side, other_side, slot_of, first_slot, second_slot}
use Rattle.fp_layout.specs.Layout.{IsHeader, IsHead, IsActive}
use Rattle.fp_layout.specs.Faults.{RefusesHeader, BreaksHead}
use Rattle.fp_layout.specs.Numbers.{BASES_END}
use Rattle.fp_layout.specs.declared.fault.OpenFault.{OpenFault}
use Rattle.fp_layout.specs.declared.fault.OpenFault.TheVariants.{Unformatted, UnknownVersion}
use Rattle.fp_layout.specs.declared.fault.OpenFault.TheVariants.{Damaged, Device, Memory}

-- ---- what was read, whatever the disk is that it was read of
-- the slots are the two of a disk, and the text of the one is a head, with whose image the reader
-- has begun
pub record ReadsImage {R : Type 0} (begins : R → ℕ → ℕ → ℕ → List ℕ → R → Type 0) (before after : R)
    (slot other : Slot) (version generation : ℕ) (text : List ℕ) : Type 0 where
  pub size : ℕ
  pub side : Side
  pub base : ℕ
  pub image : List ℕ
  pub allowed : IsSlotSize size
  pub slot_is : slot ≡ slot_of size side
  pub other_is : other ≡ slot_of size (other_side side)
  pub text_is : text ≡ head_text version generation base image
  pub known : IsVersion version
  pub numbered : generation < 2 ^ 64
  pub low : base < BASES_END
  pub small : length image ≤ size / 2
  pub begun : begins before version base (size / 2) image after

-- and behind that stand bodies, which the reader has taken then, in order
pub record ReadsSlot {R : Type 0} (begins : R → ℕ → ℕ → ℕ → List ℕ → R → Type 0)
    (takes : R → List ℕ → R → Type 0) (before after : R) (slot other : Slot)
    (version generation : ℕ) (text : List ℕ) : Type 0 where
  pub middle : R
  pub head : List ℕ
  pub bodies : List (List ℕ)
  pub begun : ReadsImage begins before middle slot other version generation head
  pub reads : Reads takes middle bodies after
  pub short : AllShort slot.most bodies
  pub text_is : text ≡ head ++ spell bodies

-- ---- what stands in front of the batches
-- neither of two slots of this size rules, or the one that does has no head; k is the first byte to
-- show it
pub data BreaksRuling (c : List ℕ) (size k : ℕ) : Type 0 where
  in_neither : RulesNeither (first_slot size).start (second_slot size).start c k
      → BreaksRuling c size k
  in_one : (slot other : Slot) → IsActive c size slot other → BreaksHead c slot.start size k
      → BreaksRuling c size k

-- the header is there, this slot rules and has a head, the reader has begun with the image, and the
-- first batch's gate is at this place
pub record FoundFront {R : Type 0} (begins : R → ℕ → ℕ → ℕ → List ℕ → R → Type 0) (c : List ℕ)
    (before after : R) (slot : Slot) (at : ℕ) : Type 0 where
  pub size : ℕ
  pub other : Slot
  pub version : ℕ
  pub generation : ℕ
  pub base : ℕ
  pub image : List ℕ
  pub header : IsHeader c size
  pub active : IsActive c size slot other
  pub head : IsHead c slot.start size version generation base image
  pub begun : begins before version base (size / 2) image after
  pub place : at ≡ slot.start + IMAGE_PLACE + length image

-- k is the first byte to show that they aren't
pub data BreaksFront {R : Type 0} (rejects : R → ℕ → ℕ → ℕ → List ℕ → ℕ → Type 0) (c : List ℕ)
    (before : R) (k : ℕ) : Type 0 where
  in_header : RefusesHeader c (Damaged k) → BreaksFront rejects c before k
  in_slots : (size : ℕ) → IsHeader c size
      → RulesNeither (first_slot size).start (second_slot size).start c k
      → BreaksFront rejects c before k
  in_head : (size : ℕ) (slot other : Slot) → IsHeader c size → IsActive c size slot other
      → BreaksHead c slot.start size k → BreaksFront rejects c before k
  in_image : (size version generation base : ℕ) (slot other : Slot) (image : List ℕ) (offset : ℕ)
      → IsHeader c size → IsActive c size slot other
      → IsHead c slot.start size version generation base image
      → rejects before version base (size / 2) image offset → k ≡ slot.start + IMAGE_PLACE + offset
      → BreaksFront rejects c before k

abbrev pub RefusesFront : {R : Type 0} → (R → ℕ → ℕ → ℕ → List ℕ → ℕ → Type 0) → List ℕ → R
    → OpenFault → Type 0
RefusesFront rejects c before Unformatted = RefusesHeader c Unformatted
RefusesFront rejects c before (UnknownVersion v) = RefusesHeader c (UnknownVersion v)
RefusesFront rejects c before (Damaged at) = BreaksFront rejects c before at
RefusesFront rejects c before Device = Unit {0}
RefusesFront rejects c before Memory = Unit {0}

-- ---- the whole
-- the front of the slot is all that was read of it, the batches too, and the reader has taken it
pub record FoundDisk {R : Type 0} (begins : R → ℕ → ℕ → ℕ → List ℕ → R → Type 0)
    (takes : R → List ℕ → R → Type 0) (c : List ℕ) (before after : R) (slot : Slot)
    (front : List ℕ) : Type 0 where
  pub at : ℕ
  pub middle : R
  pub begun : FoundFront begins c before middle slot at
  pub chain : FoundChain takes slot.most at slot.stop c middle after (slot.start + length front)
  pub front_is : front ≡ slice_range c slot.start (slot.start + length front)

pub data BreaksDisk {R : Type 0} (begins : R → ℕ → ℕ → ℕ → List ℕ → R → Type 0)
    (rejects : R → ℕ → ℕ → ℕ → List ℕ → ℕ → Type 0) (takes : R → List ℕ → R → Type 0)
    (refuses : R → List ℕ → ℕ → Type 0) (c : List ℕ) (before : R) (k : ℕ) : Type 0 where
  in_front : BreaksFront rejects c before k → BreaksDisk begins rejects takes refuses c before k
  in_chain : (slot : Slot) (at : ℕ) (middle : R) → FoundFront begins c before middle slot at
      → StopsAt takes refuses slot.most at slot.stop c middle k
      → BreaksDisk begins rejects takes refuses c before k

abbrev pub RefusesDisk : {R : Type 0} → (R → ℕ → ℕ → ℕ → List ℕ → R → Type 0)
    → (R → ℕ → ℕ → ℕ → List ℕ → ℕ → Type 0) → (R → List ℕ → R → Type 0)
    → (R → List ℕ → ℕ → Type 0) → List ℕ → R → OpenFault → Type 0
RefusesDisk begins rejects takes refuses c before Unformatted = RefusesHeader c Unformatted
RefusesDisk begins rejects takes refuses c before (UnknownVersion v) = RefusesHeader c
    (UnknownVersion v)
RefusesDisk begins rejects takes refuses c before (Damaged at) =
    BreaksDisk begins rejects takes refuses c before at
RefusesDisk begins rejects takes refuses c before Device = Unit {0}
RefusesDisk begins rejects takes refuses c before Memory = Unit {0}
