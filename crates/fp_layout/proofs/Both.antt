-- The other slot of a disk that was read, before anything is written.
use Rattle.std.proofs.Common.{◌≡◌, ◌⊎◌, ◌≤◌, inl, inr, ⊎_elim, Bool, true, false, ℕ, ◌+◌, List, [], ◌∷◌, ◌++◌, length}
use Rattle.std.proofs.Common.{sym, ◌∙◌, ap, subst, arith}
use Rattle.std.specs.Prelude.{◌↔◌, IsTrue, slice_index}
use Rattle.std.specs.Int.{w32, w64, to_be_bytes}
use Rattle.fp_disk.specs.Outcomes.{PendingState, all_synced}
use Rattle.fp_gate.specs.declared.gate.TheConstants.{OPEN}
use Rattle.fp_journal.specs.Holds.{IsSynced}
use Rattle.fp_journal.specs.declared.slot.Slot.{Slot}
use Rattle.fp_journal.proofs.Holds.{firm_settled, holds_byte}
use Rattle.fp_layout.specs.Size.{IsSlotSize, Side, first, second, other_side, slot_of}
use Rattle.fp_layout.proofs.Making.{two_apart, two_wide}
use Rattle.fp_layout.proofs.Numbers.{number64_one}
use Rattle.fp_slots.specs.Head.{head_text}
use Rattle.fp_slots.specs.Rules.{HasGeneration, Rules}
use Rattle.fp_slots.specs.State.{IsBeaten, IsFrontOf}

module _ (c : List ℕ) (slot other generation : ℕ) (rules : Rules slot other c) (g : HasGeneration slot generation c) where
  -- the other one is closed, or older
  pub other_beaten : (u : PendingState) → u ≡ all_synced c → (b : Bool) → (IsTrue b ↔ (slice_index c other ≡ OPEN)) →
      IsBeaten b other generation u
  other_beaten u sure true is = ⊎_elim
      (λ shut. absurd (shut (is.0 cc)))
      (λ both. let same = number64_one c (slot + 1) both.0 generation both.2.text both.2.small g.text g.small in
      let less = both.4 in record {
        its = both.1;
        small = both.3.small;
        less = omega (arith, same, less);
        firm = subst (λ (v : PendingState). IsSynced v (other + 1) (to_be_bytes w64 both.1)) (sym sure)
            (firm_settled c (other + 1) (to_be_bytes w64 both.1) both.3.text);
      }) rules.over
  other_beaten u sure false is = record {
    gate = slice_index c other;
    shut = λ e. (let never = is.1 e in absurd cc);
    firm = subst (λ (v : PendingState). IsSynced v other (slice_index c other ∷ [])) (sym sure)
        (firm_settled c other (slice_index c other ∷ []) (holds_byte c other rules.there));
  }

-- ---- the two slots of a disk, and the text in front of a chain
module _ (size : ℕ) (slot other : Slot) where
  pub beside : (side : Side) → slot ≡ slot_of size side → other ≡ slot_of size (other_side side) →
      (slot.stop ≤ other.start) ⊎ (other.stop ≤ slot.start)
  beside first is its = inl (two_apart size slot is other its)
  beside second is its = inr (two_apart size other its slot is)

  pub both_wide : (side : Side) → slot ≡ slot_of size side → other ≡ slot_of size (other_side side) →
      IsSlotSize size → (other.start + 9 ≤ other.stop) × (slot.start + 9 ≤ slot.stop)
  both_wide first is its allowed = two_wide size slot is other its allowed
  both_wide second is its allowed = let wide = two_wide size other its slot is allowed in (wide.1, wide.0)

pub front_of_chain : (version generation base : ℕ) (image head more text : List ℕ) →
    head ≡ head_text version generation base image → text ≡ head ++ more → IsFrontOf version generation text
front_of_chain version generation base image head more text head_is is = record {
  rest = (to_be_bytes w64 base ++ (to_be_bytes w32 (length image) ++ image)) ++ more;
  front_is = is ∙ ap (λ (l : List ℕ). l ++ more) head_is;
}
