-- A fault of one part as a fault of the whole.
use Rattle.std.proofs.Common.{◌≢◌, ℕ, List}
use Rattle.fp_journal.specs.Reading.{Refuses}
use Rattle.fp_journal.specs.declared.chain.ChainFault.{ChainFault}
use Rattle.fp_journal.specs.declared.chain.ChainFault.TheVariants as chain_fault
use Rattle.fp_journal.specs.declared.pieces.BytesFault.{BytesFault}
use Rattle.fp_journal.specs.declared.pieces.BytesFault.TheVariants as bytes_fault
use Rattle.fp_layout.specs.declared.fault.OpenFault.{OpenFault}
use Rattle.fp_layout.specs.declared.fault.OpenFault.TheVariants.{Unformatted, UnknownVersion, Damaged, Device, Memory}
use Rattle.fp_journal.specs.declared.slot.Slot.{Slot}
use Rattle.fp_slots.specs.Rules.{RefusesSlots}
use Rattle.fp_slots.specs.declared.choosing.SlotFault.{SlotFault}
use Rattle.fp_slots.specs.declared.choosing.SlotFault.TheVariants as slot_fault
use Rattle.fp_layout.specs.Size.{first_slot, second_slot}
use Rattle.fp_layout.specs.Layout.{IsHeader, IsActive}
use Rattle.fp_layout.specs.Faults.{BreaksHead, IsDamage, UnlessWanting, fault_of_bytes, fault_of_chain, fault_of_slots}
use Rattle.fp_layout.specs.Opening.{BreaksRuling, in_neither, in_one, FoundFront, BreaksFront, in_slots, in_head}
use Rattle.fp_layout.specs.Opening.{RefusesFront, in_front, in_chain, RefusesDisk}

-- a fact of each fault
by_fault : (P : OpenFault → Type 0) → P Unformatted → ((v : ℕ) → P (UnknownVersion v)) →
    ((at : ℕ) → P (Damaged at)) → P Device → P Memory → (f : OpenFault) → P f
by_fault P a b c d e Unformatted = a
by_fault P a b c d e (UnknownVersion v) = b v
by_fault P a b c d e (Damaged at) = c at
by_fault P a b c d e Device = d
by_fault P a b c d e Memory = e

-- what a fault says it says unless the device or memory was wanting
pub unless_wanting : (P : OpenFault → Type 0) (f : OpenFault) → P f → UnlessWanting P f
unless_wanting P = by_fault (λ f. P f → UnlessWanting P f) (λ r. r) (λ v r. r) (λ at r. r) (λ r. tt) (λ r. tt)

-- the place that shows that no slot rules
pub neither_refuses : (size : ℕ) (c : List ℕ) (f : SlotFault) →
    RefusesSlots (first_slot size).start (second_slot size).start c f →
    IsDamage (BreaksRuling c size) (fault_of_slots f)
neither_refuses size c (slot_fault.Damaged at) r = in_neither r

-- the device has no part in it
pub slots_no_device : (f : SlotFault) → fault_of_slots f ≢ Device
slots_no_device (slot_fault.Damaged at) = λ e. absurd cc

-- or that the one that does has no head
pub head_refuses : (c : List ℕ) (size : ℕ) (slot other : Slot) (f : OpenFault) → IsActive c size slot other →
    IsDamage (BreaksHead c slot.start size) f → IsDamage (BreaksRuling c size) f
head_refuses c size slot other f a =
    by_fault (λ f. IsDamage (BreaksHead c slot.start size) f → IsDamage (BreaksRuling c size) f) (λ r. absurd r)
    (λ v r. absurd r) (λ at r. in_one slot other a r) (λ r. absurd r) (λ r. absurd r) f

module _ {R : Type 0} (rejects : R → ℕ → ℕ → ℕ → List ℕ → ℕ → Type 0) (c : List ℕ) (before : R) where
  pub bytes_refuse : (f : BytesFault) → RefusesFront rejects c before (fault_of_bytes f)
  bytes_refuse bytes_fault.Device = tt
  bytes_refuse bytes_fault.Memory = tt

  ruling_breaks : (size k : ℕ) → IsHeader c size → BreaksRuling c size k → BreaksFront rejects c before k
  ruling_breaks size k h (in_neither r) = in_slots size h r
  ruling_breaks size k h (in_one slot other a r) = in_head size slot other h a r

  pub ruling_refuses : (size : ℕ) (f : OpenFault) → IsHeader c size →
      UnlessWanting (IsDamage (BreaksRuling c size)) f → RefusesFront rejects c before f
  ruling_refuses size f h = by_fault
      (λ f. UnlessWanting (IsDamage (BreaksRuling c size)) f → RefusesFront rejects c before f) (λ r. absurd r)
      (λ v r. absurd r) (λ at r. ruling_breaks size at h r) (λ r. tt) (λ r. tt) f

module _ {R : Type 0} (begins : R → ℕ → ℕ → ℕ → List ℕ → R → Type 0) (rejects : R → ℕ → ℕ → ℕ → List ℕ → ℕ → Type 0)
    (takes : R → List ℕ → R → Type 0) (refuses : R → List ℕ → ℕ → Type 0) (c : List ℕ) (before : R) where
  pub front_refuses : (f : OpenFault) → RefusesFront rejects c before f → RefusesDisk begins rejects takes refuses c before f
  front_refuses = by_fault (λ f. RefusesFront rejects c before f →
      RefusesDisk begins rejects takes refuses c before f) (λ r. r) (λ v r. r) (λ at r. in_front r) (λ r. r) (λ r. r)

  pub chain_refuses : (slot : Slot) (at : ℕ) (middle : R) (f : ChainFault) →
      FoundFront begins c before middle slot at → Refuses takes refuses slot.most at slot.stop c middle f →
      RefusesDisk begins rejects takes refuses c before (fault_of_chain f)
  chain_refuses slot at middle (chain_fault.Damaged k) found r = in_chain slot at middle found r
  chain_refuses slot at middle chain_fault.Device found r = r
  chain_refuses slot at middle chain_fault.Memory found r = r
