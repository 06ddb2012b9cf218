-- A disk that is refused shows one fault, at one place within it.
use Rattle.std.proofs.Common.{◌≡◌, ◌+◌, ◌/◌, ℕ, List, Result, Err, refl, sym, ap, subst, ◌∙◌, inl, inr, arith}
use Rattle.std.specs.Prelude.{slice_index}
use Rattle.std.proofs.lemmas.Bool.{cases_lt}
use Rattle.fp_edit.specs.Flags.{State}
use Rattle.fp_journal.specs.declared.slot.Slot.{Slot}
use Rattle.fp_layout.proofs.Numbers.{number64_one}
use Rattle.fp_layout.specs.Faults.{BreaksHeader, bad_size, not_zero, too_short, BreaksHead, no_generation, no_version, no_base, no_image}
use Rattle.fp_layout.specs.Faults as faults
use Rattle.fp_layout.specs.Layout.{IsFormatted, IsFirstOther}
use Rattle.fp_layout.specs.Opening.{in_header, in_slots, in_head, in_image, BreaksDisk, in_front, in_chain}
use Rattle.fp_slots.specs.Rules.{RulesNeither, none_open, cut, equal}
use Rattle.fp_layout.specs.declared.fault.OpenFault.{OpenFault}
use Rattle.fp_layout.specs.declared.fault.OpenFault.TheVariants.{Unformatted, UnknownVersion, Damaged, Device, Memory}
use Rattle.fp_recovery.specs.Exact.{IsOfBytes}
use Rattle.fp_recovery.specs.Reading.{image_under}
use Rattle.fp_recovery.specs.Refusals.{BeginsWith, RejectsImage, RefusesBatch, RefusesBytes, Replayed, TakesBody, nothing_read}
use Rattle.fp_recovery.specs.Stands.{StandsFor}
use Rattle.fp_recovery.proofs.Chains.{err_is}
use Rattle.fp_recovery.proofs.One.{one_reading, stops_to}
use Rattle.fp_recovery.proofs.Parts.{HasFront, front_one, moved_front, size_one}
use Rattle.fp_recovery.proofs.Refused.{Broken, IsHeaderDamage, Rejected, damage_sound, front_found_sound, front_of}
use Rattle.fp_recovery.proofs.Refused.{head_fine, head_told, slots_fine, unless_wanting}

-- ---- the front
first_one : (c : List ℕ) (from stop j k : ℕ) → IsFirstOther c from stop j → IsFirstOther c from stop k → j ≡ k
first_one c from stop j k p q = elim (cases_lt j k) [
  | inl lt ↦ absurd (p.other (q.zeros j p.after lt))
  | inr le ↦ elim (cases_lt k j) [
    | inl lt ↦ absurd (q.other (p.zeros k q.after lt))
    | inr le2 ↦ omega (arith, le, le2)
  ]
]

module _ (c : List ℕ) where
  header_one : (size j k : ℕ) → BreaksHeader c size j → BreaksHeader c size k → j ≡ k
  header_one size j k (bad_size none is) (bad_size none' is') = is ∙ sym is'
  header_one size j k (bad_size none is) (not_zero allowed other) = absurd (none allowed)
  header_one size j k (bad_size none is) (too_short allowed zeros short is') = absurd (none allowed)
  header_one size j k (not_zero allowed other) (bad_size none is') = absurd (none allowed)
  header_one size j k (not_zero allowed other) (not_zero allowed' other') = first_one c 18 64 j k other other'
  header_one size j k (not_zero allowed other) (too_short allowed' zeros short is') =
      absurd (other.other (zeros j other.after other.before))
  header_one size j k (too_short allowed zeros short is) (bad_size none is') = absurd (none allowed)
  header_one size j k (too_short allowed zeros short is) (not_zero allowed' other) = absurd (other.other (zeros k other.after other.before))
  header_one size j k (too_short allowed zeros short is) (too_short allowed' zeros' short' is') = is ∙ sym is'

  -- neither slot rules
  neither_one : (first second j k : ℕ) → RulesNeither first second c j → RulesNeither first second c k → j ≡ k
  neither_one first second j k (none_open a b is) (none_open a' b' is') = is ∙ sym is'
  neither_one first second j k (none_open a b is) (cut a' b' short is') = absurd (a a')
  neither_one first second j k (none_open a b is) (equal a' b' n p q is') = absurd (a a')
  neither_one first second j k (cut a b short is) (none_open a' b' is') = absurd (a' a)
  neither_one first second j k (cut a b short is) (cut a' b' short' is') = is ∙ sym is'
  neither_one first second j k (cut a b short is) (equal a' b' n p q is') = let long = q.text.long in absurd (omega (arith, long, short))
  neither_one first second j k (equal a b n p q is) (none_open a' b' is') = absurd (a' a)
  neither_one first second j k (equal a b n p q is) (cut a' b' short is') = let long = q.text.long in absurd (omega (arith, long, short))
  neither_one first second j k (equal a b n p q is) (equal a' b' n' p' q' is') = is ∙ sym is'

  -- the head's first fault
  head_one : (at size j k : ℕ) → BreaksHead c at size j → BreaksHead c at size k → j ≡ k
  head_one at size j k (no_generation short is) (no_generation short' is') = is ∙ sym is'
  head_one at size j k (no_generation short is) (no_version there none is') = absurd (omega (arith, short, there))
  head_one at size j k (no_generation short is) (no_base v v_is none is') = let long = v_is.long in absurd (omega (arith, short, long))
  head_one at size j k (no_generation short is) (faults.no_length v b v_is b_is none is') = let long = v_is.long in
      absurd (omega (arith, short, long))
  head_one at size j k (no_generation short is) (no_image v b len v_is b_is len_is short' is') = let long =
      v_is.long in absurd (omega (arith, short, long))
  head_one at size j k (no_version there none is) (no_generation short is') = absurd (omega (arith, short, there))
  head_one at size j k (no_version there none is) (no_version there' none' is') = is ∙ sym is'
  head_one at size j k (no_version there none is) (no_base v v_is none' is') = absurd (none v v_is)
  head_one at size j k (no_version there none is) (faults.no_length v b v_is b_is none' is') = absurd (none v v_is)
  head_one at size j k (no_version there none is) (no_image v b len v_is b_is len_is short is') = absurd (none v v_is)
  head_one at size j k (no_base v v_is none is) (no_generation short is') = let long = v_is.long in absurd (omega (arith, short, long))
  head_one at size j k (no_base v v_is none is) (no_version there none' is') = absurd (none' v v_is)
  head_one at size j k (no_base v v_is none is) (no_base v' v_is' none' is') = is ∙ sym is'
  head_one at size j k (no_base v v_is none is) (faults.no_length v' b v_is' b_is none' is') = absurd (none b b_is)
  head_one at size j k (no_base v v_is none is) (no_image v' b len v_is' b_is len_is short is') = absurd (none b b_is)
  head_one at size j k (faults.no_length v b v_is b_is none is) (no_generation short is') = let long = v_is.long in
      absurd (omega (arith, short, long))
  head_one at size j k (faults.no_length v b v_is b_is none is) (no_version there none' is') = absurd (none' v v_is)
  head_one at size j k (faults.no_length v b v_is b_is none is) (no_base v' v_is' none' is') = absurd (none' b b_is)
  head_one at size j k (faults.no_length v b v_is b_is none is) (faults.no_length v' b' v_is' b_is' none' is') = is ∙ sym is'
  head_one at size j k (faults.no_length v b v_is b_is none is) (no_image v' b' len v_is' b_is' len_is short is') = absurd (none len len_is)
  head_one at size j k (no_image v b len v_is b_is len_is short is) (no_generation short' is') = let long =
      v_is.long in absurd (omega (arith, short', long))
  head_one at size j k (no_image v b len v_is b_is len_is short is) (no_version there none is') = absurd (none v v_is)
  head_one at size j k (no_image v b len v_is b_is len_is short is) (no_base v' v_is' none is') = absurd (none b b_is)
  head_one at size j k (no_image v b len v_is b_is len_is short is) (faults.no_length v' b' v_is' b_is' none is') = absurd (none len len_is)
  head_one at size j k (no_image v b len v_is b_is len_is short is) (no_image v' b' len' v_is' b_is' len_is' short' is') = is ∙ sym is'

  damage_one : (j k : ℕ) → IsHeaderDamage c j → IsHeaderDamage c k → j ≡ k
  damage_one j k p q =
      let same = number64_one c 10 p.2.0 q.2.0 p.2.2 p.2.1 q.2.2 q.2.1 in
      header_one q.2.0 j k (subst (λ (n : ℕ). BreaksHeader c n j) same p.2.3) q.2.3

  image_rejected_one : {size version generation base offset size' version' generation' base' offset' : ℕ}
      {slot other slot' other' : Slot} {image image' : List ℕ} →
      HasFront c size version generation base slot other image → Rejected c size base image offset
      → HasFront c size' version' generation' base' slot' other' image' → Rejected c size' base' image' offset' →
      slot.start + 22 + offset ≡ slot'.start + 22 + offset'
  image_rejected_one {offset = offset} {size' = size'} {base' = base'} {offset' = offset'} {slot' = slot'} {image' = image'} h r h' r' =
      let f = front_one c h h' in
      let same : Rejected c size' base' image' offset = moved_front (λ n version base image. Rejected c n base image offset) f r in
      ap (λ (x : Slot). x.start + 22 + offset) f.slot_is ∙
      ap (λ (n : ℕ). slot'.start + 22 + n) (err_is (image_under base' (size' / 2) image') offset offset' same r')

  front_fault_one : (j k : ℕ) → Broken c j → Broken c k → j ≡ k
  front_fault_one j k (in_header p) (in_header q) = damage_one j k p q
  front_fault_one j k (in_header p) (in_slots size h b) = absurd (damage_sound c size j h p)
  front_fault_one j k (in_header p) (in_head size slot other h a b) = absurd (damage_sound c size j h p)
  front_fault_one j k (in_header p) (in_image size version generation base slot other image offset h a d r is) =
      absurd (damage_sound c size j h p)
  front_fault_one j k (in_slots size h b) (in_header q) = absurd (damage_sound c size k h q)
  front_fault_one j k (in_slots size h b) (in_slots size' h' b') =
      neither_one 64 (64 + size') j k
      (subst (λ (n : ℕ). RulesNeither 64 (64 + n) c j) (size_one c size size' h h') b) b'
  front_fault_one j k (in_slots size h b) (in_head size' slot' other' h' a' b') = absurd (slots_fine c j h' h a' b)
  front_fault_one j k (in_slots size h b)
      (in_image size' version generation base slot' other' image offset h' a' d r is) =
      absurd (slots_fine c j h' h a' b)
  front_fault_one j k (in_head size slot other h a b) (in_header q) = absurd (damage_sound c size k h q)
  front_fault_one j k (in_head size slot other h a b) (in_slots size' h' b') = absurd (slots_fine c k h h' a b')
  front_fault_one j k (in_head size slot other h a b) (in_head size' slot' other' h' a' b') =
      head_one slot'.start size' j k (head_told c h h' a a' b) b'
  front_fault_one j k (in_head size slot other h a b)
      (in_image size' version generation base slot' other' image offset h' a' d r is) =
      absurd (head_fine c j (front_of c h' a' d) h a b)
  front_fault_one j k (in_image size version generation base slot other image offset h a d r is) (in_header q) =
      absurd (damage_sound c size k h q)
  front_fault_one j k (in_image size version generation base slot other image offset h a d r is)
      (in_slots size' h' b') = absurd (slots_fine c k h h' a b')
  front_fault_one j k (in_image size version generation base slot other image offset h a d r is)
      (in_head size' slot' other' h' a' b') = absurd (head_fine c k (front_of c h a d) h' a' b')
  front_fault_one j k (in_image size version generation base slot other image offset h a d r is)
      (in_image size' version' generation' base' slot' other' image' offset' h' a' d' r' is') =
      is ∙ image_rejected_one (front_of c h a d) r (front_of c h' a' d') r' ∙ sym is'

  -- ---- the whole
  abbrev Damage : ℕ → Type 0
  Damage k = BreaksDisk BeginsWith RejectsImage TakesBody RefusesBatch c nothing_read k

  damaged_one : (j k : ℕ) → Damage j → Damage k → j ≡ k
  damaged_one j k (in_front p) (in_front q) = front_fault_one j k p q
  damaged_one j k (in_front p) (in_chain slot at middle f s) = absurd (front_found_sound c j f p)
  damaged_one j k (in_chain slot at middle f s) (in_front q) = absurd (front_found_sound c k f q)
  damaged_one j k (in_chain slot at middle f s) (in_chain slot' at' middle' g t) =
      let same : ◌≡◌ {A = Result Replayed ℕ} (Err j) (Err k) =
      one_reading c (Err j) (Err k) (stops_to c slot at middle j f s) (stops_to c slot' at' middle' k g t) in cc

  -- damage shows on a disk of this version
  damaged_front : (k : ℕ) → Damage k → IsFormatted c × (slice_index c 9 ≡ 1)
  damaged_front k (in_front (in_header p)) = (p.0, p.1)
  damaged_front k (in_front (in_slots size h b)) = (h.formatted, h.version)
  damaged_front k (in_front (in_head size slot other h a b)) = (h.formatted, h.version)
  damaged_front k (in_front (in_image size version generation base slot other image offset h a d r is)) = (h.formatted, h.version)
  damaged_front k (in_chain slot at middle f s) = (f.header.formatted, f.header.version)

pub one_fault : (c : List ℕ) (f g : OpenFault) → IsOfBytes f → IsOfBytes g → RefusesBytes c f → RefusesBytes c g → f ≡ g
one_fault c Unformatted Unformatted a b p q = refl
one_fault c Unformatted (UnknownVersion w) a b p q = absurd (p q.0)
one_fault c Unformatted (Damaged k) a b p q = absurd (p (damaged_front c k q).0)
one_fault c Unformatted Device a b p q = absurd b
one_fault c Unformatted Memory a b p q = absurd b
one_fault c (UnknownVersion v) Unformatted a b p q = absurd (q p.0)
one_fault c (UnknownVersion v) (UnknownVersion w) a b p q = ap UnknownVersion (sym p.1 ∙ q.1)
one_fault c (UnknownVersion v) (Damaged k) a b p q = absurd (p.2 (sym p.1 ∙ (damaged_front c k q).1))
one_fault c (UnknownVersion v) Device a b p q = absurd b
one_fault c (UnknownVersion v) Memory a b p q = absurd b
one_fault c (Damaged j) Unformatted a b p q = absurd (q (damaged_front c j p).0)
one_fault c (Damaged j) (UnknownVersion w) a b p q = absurd (q.2 (sym q.1 ∙ (damaged_front c j p).1))
one_fault c (Damaged j) (Damaged k) a b p q = ap Damaged (damaged_one c j k p q)
one_fault c (Damaged j) Device a b p q = absurd b
one_fault c (Damaged j) Memory a b p q = absurd b
one_fault c Device g a b p q = absurd a
one_fault c Memory g a b p q = absurd a

pub standing_has_no_fault : (c : List ℕ) (f : OpenFault) (s : State) → IsOfBytes f → RefusesBytes c f → StandsFor c s → ⊥
standing_has_no_fault c Unformatted s a r h = unless_wanting c Unformatted r s h
standing_has_no_fault c (UnknownVersion v) s a r h = unless_wanting c (UnknownVersion v) r s h
standing_has_no_fault c (Damaged k) s a r h = unless_wanting c (Damaged k) r s h
standing_has_no_fault c Device s a r h = a
standing_has_no_fault c Memory s a r h = a
