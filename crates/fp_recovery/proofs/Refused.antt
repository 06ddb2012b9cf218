-- Bytes that stand for a set aren't refused.
use Rattle.std.proofs.Common.{◌≡◌, ◌⊎◌, ◌<◌, ◌≤◌, ◌+◌, ◌/◌, ◌^◌, ℕ, List, length, refl, sym, subst, ◌∙◌, inl, inr, arith}
use Rattle.std.specs.Prelude.{slice_index, Result, Ok, Err}
use Rattle.std.specs.FinMap as fin
use Rattle.std.specs.Int.{w64, to_be_bytes}
use Rattle.fp_edit.specs.Flags.{State}
use Rattle.fp_journal.specs.Holds.{Holds}
use Rattle.fp_journal.specs.declared.slot.Slot.{Slot}
use Rattle.fp_slots.specs.Rules.{Rules, RulesNeither}
use Rattle.fp_slots.proofs.Ruling.{refuses_rightly}
use Rattle.fp_layout.specs.Size.{IsSlotSize, Side, other_side, slot_of, first_slot, second_slot}
use Rattle.fp_layout.specs.Size as sides
use Rattle.fp_layout.specs.Layout.{IsFormatted, IsHeader, IsHead, IsActive}
use Rattle.fp_layout.specs.Faults.{BreaksHeader, bad_size, not_zero, too_short, BreaksHead, no_generation, no_version, no_base, no_image}
use Rattle.fp_layout.specs.Faults as faults
use Rattle.fp_layout.specs.Opening.{FoundFront, BreaksFront, in_header, in_slots, in_head, in_image, BreaksDisk, in_front, in_chain}
use Rattle.fp_layout.proofs.Numbers.{number32_one, number64_one}
use Rattle.fp_layout.specs.declared.fault.OpenFault.{OpenFault}
use Rattle.fp_layout.specs.declared.fault.OpenFault.TheVariants.{Unformatted, UnknownVersion, Damaged, Device, Memory}
use Rattle.fp_recovery.specs.Stands.{StandsFor}
use Rattle.fp_recovery.specs.Reading.{image_under}
use Rattle.fp_recovery.specs.Refusals.{BeginsWith, RejectsImage, RefusesBatch, RefusesBytes, Replayed, TakesBody}
use Rattle.fp_recovery.specs.Refusals.{IsUnlessWanting, nothing_read}
use Rattle.fp_recovery.proofs.Read.{image_back}
use Rattle.fp_recovery.proofs.Chains.{apart}
use Rattle.fp_recovery.proofs.One.{front_there, one_reading, read_of, stands_to, stops_to}
use Rattle.fp_recovery.proofs.Parts.{HasFront, active_one, front_one, moved_front, size_one}

-- ---- the parts of a disk
module _ (c : List ℕ) (whole : ℕ) (there : IsHeader c whole) where
  pub header_sound : (size k : ℕ) → size < 2 ^ 64 → Holds c 10 (to_be_bytes w64 size) → BreaksHeader c size k → ⊥
  header_sound size k small text broken = let large = there.allowed.greatest in
      by_case (number64_one c 10 size whole text small there.size_text (omega (arith, large))) broken
    where
      by_case : size ≡ whole → BreaksHeader c size k → ⊥
      by_case same (bad_size none is) = none (subst IsSlotSize (sym same) there.allowed)
      by_case same (not_zero allowed other) = other.other (there.zeros k other.after other.before)
      by_case same (too_short allowed zeros short is) = let long = there.long in omega (arith, short, long, same)

-- ---- the slots
-- one rules, so neither is no fault
pub slots_sound : (c : List ℕ) (size k : ℕ) (slot other : Slot) → IsActive c size slot other →
    RulesNeither (first_slot size).start (second_slot size).start c k → ⊥
slots_sound c size k slot other a r = by_side a.side a.slot_is a.other_is
  where
    never : (Rules 64 (64 + size) c → ⊥) × (Rules (64 + size) 64 c → ⊥)
    never = refuses_rightly c 64 (64 + size) k r

    ruled : (x y : Slot) → slot ≡ x → other ≡ y → Rules x.start y.start c
    ruled x y p q = subst (λ (z : Slot). Rules x.start z.start c) q (subst (λ (z : Slot). Rules z.start other.start c) p a.rules)

    by_side : (x : Side) → slot ≡ slot_of size x → other ≡ slot_of size (other_side x) → ⊥
    by_side sides.first p q = never.0 (ruled (first_slot size) (second_slot size) p q)
    by_side sides.second p q = never.1 (ruled (second_slot size) (first_slot size) p q)

pub head_sound : (c : List ℕ) (at size version generation base : ℕ) (image : List ℕ) (k : ℕ) → size ≤ 2 ^ 30 →
    IsHead c at size version generation base image → BreaksHead c at size k → ⊥
head_sound c at size version generation base image k large h (no_generation short is) = let long =
    h.generation_is.text.long in omega (arith, long, short)
head_sound c at size version generation base image k large h (no_version there none is) = none version h.version_is
head_sound c at size version generation base image k large h (no_base v v_is none is) = none base h.base_is
head_sound c at size version generation base image k large h (faults.no_length v b v_is b_is none is) = none (length image) h.length_is
head_sound c at size version generation base image k large h (no_image v b len v_is b_is len_is short is) =
    let n = len_is.small in let m = h.length_is.small in let long = h.image_text.long in
    let same = number32_one c (at + 18) len (length image) len_is.text (omega (arith, large, n)) h.length_is.text
    (omega (arith, large, m)) in omega (arith, long, same, short)

-- ---- the front of a disk
module _ (c : List ℕ) where
  -- the header is damaged
  abbrev pub IsHeaderDamage : ℕ → Type 0
  IsHeaderDamage k = IsFormatted c × (slice_index c 9 ≡ 1) ×
      ((size : ℕ) × (size < 2 ^ 64) × Holds c 10 (to_be_bytes w64 size) × BreaksHeader c size k)

  pub damage_sound : (size k : ℕ) → IsHeader c size → IsHeaderDamage k → ⊥
  damage_sound size k header p = header_sound c size header p.2.0 k p.2.1 p.2.2 p.2.3

  abbrev pub Rejected : ℕ → ℕ → List ℕ → ℕ → Type 0
  Rejected size base image offset = image_under base (size / 2) image ≡ Err offset

  abbrev pub Broken : ℕ → Type 0
  Broken k = BreaksFront RejectsImage c nothing_read k

  pub front_of : {size version generation base : ℕ} {slot other : Slot} {image : List ℕ} → IsHeader c size →
      IsActive c size slot other → IsHead c slot.start size version generation base image →
      HasFront c size version generation base slot other image
  front_of h a d = record { header = h; active = a; head = d }

  -- a slot that rules, told by two
  moved_active : {size size' : ℕ} {slot other : Slot} → IsHeader c size → IsHeader c size' →
      IsActive c size slot other → IsActive c size' slot other
  moved_active {size} {size'} {slot} {other} h h' a = subst (λ (n : ℕ). IsActive c n slot other) (size_one c size size' h h') a

  pub head_told : {size size' k : ℕ} {slot other slot' other' : Slot} → IsHeader c size → IsHeader c size' →
      IsActive c size slot other → IsActive c size' slot' other' → BreaksHead c slot.start size k →
      BreaksHead c slot'.start size' k
  head_told {size} {size'} {k} {slot} {other} {slot'} {other'} h h' a a' b =
      subst (λ (x : Slot). BreaksHead c x.start size' k)
      (active_one c size' slot other slot' other' (moved_active h h' a) a')
      (subst (λ (n : ℕ). BreaksHead c slot.start n k) (size_one c size size' h h') b)

  -- where there is a front, neither its slots nor its head are at fault
  pub slots_fine : {size size' : ℕ} (k : ℕ) {slot other : Slot} → IsHeader c size → IsHeader c size' →
      IsActive c size slot other → RulesNeither 64 (64 + size') c k → ⊥
  slots_fine {size} {size'} k {slot} {other} h h' a r = slots_sound c size' k slot other (moved_active h h' a) r

  pub head_fine : {size version generation base : ℕ} {slot other : Slot} {image : List ℕ} {size' : ℕ} (k : ℕ)
      {slot' other' : Slot} → HasFront c size version generation base slot other image → IsHeader c size' →
      IsActive c size' slot' other' → BreaksHead c slot'.start size' k → ⊥
  head_fine {size} {version} {generation} {base} {slot} {other} {image} k f h' a' b = let large =
      f.header.allowed.greatest in head_sound c slot.start size version generation base image k large f.head
      (head_told h' f.header a' f.active b)

  -- and nor is its image, where the front was found
  pub front_found_sound : {middle : Replayed} {slot : Slot} {at : ℕ} (k : ℕ) →
      FoundFront BeginsWith c nothing_read middle slot at → Broken k → ⊥
  front_found_sound k f (in_header p) = damage_sound f.size k f.header p
  front_found_sound k f (in_slots size' h b) = slots_fine k f.header h f.active b
  front_found_sound k f (in_head size' slot' other' h a b) = head_fine k (front_there c f) h a b
  front_found_sound {middle} k f (in_image size' version generation base slot' other' image offset h a d r is) =
      let same : Rejected f.size f.base f.image offset =
      moved_front (λ n version base image. Rejected n base image offset)
      (front_one c (front_of h a d) (front_there c f)) r in
      apart (image_under f.base (f.size / 2) f.image) (fin.entries middle.set.flags) offset
      (image_back f.base (f.size / 2) f.image middle.set f.begun.1) same

  disk_sound : (s : State) (k : ℕ) → StandsFor c s → BreaksDisk BeginsWith RejectsImage TakesBody RefusesBatch c nothing_read k → ⊥
  disk_sound s k p (in_front broken) = front_found_sound k (stands_to c s p).front broken
  disk_sound s k p (in_chain slot at middle found stops) =
      let both : ◌≡◌ {A = Result Replayed ℕ} (Ok (read_of c s p)) (Err k) =
      one_reading c (Ok (read_of c s p)) (Err k) (stands_to c s p) (stops_to c slot at middle k found stops) in
      absurd (cc both)

pub unless_wanting : (c : List ℕ) (f : OpenFault) → RefusesBytes c f → IsUnlessWanting c f
unless_wanting c Unformatted r = λ s p. r p.header.formatted
unless_wanting c (UnknownVersion v) r = λ s p. r.2 (sym r.1 ∙ p.header.version)
unless_wanting c (Damaged at) r = λ s p. disk_sound c s at p r
unless_wanting c Device r = tt
unless_wanting c Memory r = tt

-- bytes that stand for a set are refused by the device or for want of memory
pub only_wanting : (c : List ℕ) (s : State) (f : OpenFault) → StandsFor c s → IsUnlessWanting c f → (f ≡ Device) ⊎ (f ≡ Memory)
only_wanting c s Unformatted stands r = absurd (r s stands)
only_wanting c s (UnknownVersion v) stands r = absurd (r s stands)
only_wanting c s (Damaged at) stands r = absurd (r s stands)
only_wanting c s Device stands r = inl refl
only_wanting c s Memory stands r = inr refl
