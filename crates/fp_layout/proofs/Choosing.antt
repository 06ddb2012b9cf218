-- The slot that was chosen, of two.
use Rattle.std.proofs.Common.{⊎_elim, Bool, ℕ, List, sym, subst}
use Rattle.fp_journal.specs.declared.slot.Slot.{Slot}
use Rattle.fp_slots.specs.Rules.{HasLeads, IsLead, IsOneOf, IsRuling}
use Rattle.fp_layout.specs.Layout.{IsActive}
use Rattle.fp_layout.specs.Size.{first, second, first_slot, second_slot}

module _ (c : List ℕ) (size : ℕ) (mine its : List ℕ) (slot : Slot) (bytes : List ℕ) (other : Slot)
    (are : IsOneOf (first_slot size) mine (second_slot size) its slot bytes other) where
  -- these are its first bytes
  pub chosen_lead : HasLeads (first_slot size) mine (second_slot size) its c → IsLead c slot.start bytes
  chosen_lead leads = ⊎_elim
      (λ one. subst (λ (s : Slot). IsLead c s.start bytes) (sym one.0)
      (subst (λ (b : List ℕ). IsLead c (first_slot size).start b) (sym one.1) leads.0))
      (λ two. subst (λ (s : Slot). IsLead c s.start bytes) (sym two.0)
      (subst (λ (b : List ℕ). IsLead c (second_slot size).start b) (sym two.1) leads.1)) are

  -- and it is one of a disk's two
  pub chosen_active : (is_open : Bool) → IsRuling slot.start other.start is_open c → IsActive c size slot other
  chosen_active is_open ruling = ⊎_elim
      (λ one. record { side = first; slot_is = one.0; other_is = one.2; rules = ruling.rules })
      (λ two. record { side = second; slot_is = two.0; other_is = two.2; rules = ruling.rules }) are
