-- A place at which a disk is damaged lies within it.
use Rattle.std.proofs.Common.{◌≡◌, ◌<◌, ◌≤◌, ◌+◌, ◌/◌, ℕ, List, length, ap, arith}
use Rattle.fp_journal.specs.declared.slot.Slot.{Slot}
use Rattle.fp_layout.specs.Faults.{BreaksHeader, bad_size, not_zero, too_short, BreaksHead, no_generation, no_version, no_base, no_image}
use Rattle.fp_layout.specs.Faults as faults
use Rattle.fp_layout.specs.Layout.{IsFormatted, IsHeader, IsActive}
use Rattle.fp_layout.specs.Opening.{in_header, in_slots, in_head, in_image, BreaksDisk, in_front, in_chain}
use Rattle.fp_layout.specs.Size.{Side, slot_of}
use Rattle.fp_layout.specs.Size as sides
use Rattle.fp_slots.specs.Rules.{RulesNeither, none_open, cut, equal}
use Rattle.fp_layout.specs.declared.fault.OpenFault.TheVariants.{Damaged}
use Rattle.fp_recovery.specs.Refusals.{BeginsWith, RejectsImage, RefusesBatch, RefusesBytes, Replayed, TakesBody, nothing_read}
use Rattle.fp_recovery.proofs.Parts.{most_small}
use Rattle.fp_recovery.proofs.Read.{image_within_bytes}
use Rattle.fp_recovery.proofs.Chains.{stops_within}

-- ---- places
module _ (c : List ℕ) where
  header_within : (size k : ℕ) → IsFormatted c → BreaksHeader c size k → k ≤ length c
  header_within size k f (bad_size none is) = let long = f.long in omega (arith, long, is)
  header_within size k f (not_zero allowed other) = let long = f.long in let lt = other.before in omega (arith, long, lt)
  header_within size k f (too_short allowed zeros short is) = omega (arith, is)

  slots_within : (size k : ℕ) → IsHeader c size → RulesNeither 64 (64 + size) c k → k ≤ length c
  slots_within size k h (none_open a b is) = let long = h.long in omega (arith, long, is)
  slots_within size k h (cut a b short is) = omega (arith, is)
  slots_within size k h (equal a b n p q is) = let long = q.text.long in omega (arith, long, is)

  active_there : (size : ℕ) (slot other : Slot) → IsHeader c size → IsActive c size slot other → slot.start < length c
  active_there size slot other h a = by_side a.side a.slot_is
    where
      by_side : (x : Side) → slot ≡ slot_of size x → slot.start < length c
      by_side sides.first p = let long = h.long in let at = ap (λ (y : Slot). y.start) p in omega (arith, long, at)
      by_side sides.second p = let long = h.long in let at = ap (λ (y : Slot). y.start) p in omega (arith, long, at)

  head_within : (at size k : ℕ) → at < length c → BreaksHead c at size k → k ≤ length c
  head_within at size k there (no_generation short is) = omega (arith, there, is)
  head_within at size k there (no_version long none is) = omega (arith, long, is)
  head_within at size k there (no_base v v_is none is) = let long = v_is.long in omega (arith, long, is)
  head_within at size k there (faults.no_length v b v_is b_is none is) = let long = b_is.text.long in omega (arith, long, is)
  head_within at size k there (no_image v b len v_is b_is len_is short is) = let long = len_is.text.long in omega (arith, long, is)

  pub damage_within : (before : Replayed) (k : ℕ) → BreaksDisk BeginsWith RejectsImage TakesBody RefusesBatch c before k → k ≤ length c
  damage_within before k (in_front (in_header p)) = header_within p.2.0 k p.0 p.2.3
  damage_within before k (in_front (in_slots size h b)) = slots_within size k h b
  damage_within before k (in_front (in_head size slot other h a b)) = head_within slot.start size k (active_there size slot other h a) b
  damage_within before k (in_front (in_image size version generation base slot other image offset h a d r is)) =
      let inside = image_within_bytes base (size / 2) image offset r in let long = d.image_text.long in omega (arith, inside, long, is)
  damage_within before k (in_chain slot at middle f s) =
      let long = f.head.image_text.long in let place = f.place in
      stops_within slot.most slot.stop c (most_small c f.size slot f.other f.header f.active) at middle k (omega (arith, long, place)) s

pub faults_within : (c : List ℕ) (k : ℕ) → RefusesBytes c (Damaged k) → k ≤ length c
faults_within c k r = damage_within c nothing_read k r
