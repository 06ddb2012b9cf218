-- Which slot rules, by the first bytes of both.
use Rattle.std.proofs.Common.{◌≡◌, inr, ℕ, ◌+◌, ◌<◌, true, List, length, ◌∙◌, ap, subst, sym, refl, arith}
use Rattle.std.specs.Prelude.{slice_index}
use Rattle.std.specs.Int.{w64, to_be_bytes}
use Rattle.fp_gate.specs.declared.gate.TheConstants.{OPEN}
use Rattle.fp_journal.proofs.Firsts.{first_at, held_from}
use Rattle.fp_slots.specs.Rules.{HasGeneration, IsLead, IsRuling, RulesNeither, equal}

-- the gate is the first byte
lead_gate : (c : List ℕ) (slot : ℕ) (bytes : List ℕ) → IsLead c slot bytes → 0 < length bytes → slice_index c slot ≡ slice_index bytes 0
lead_gate c slot bytes lead some = let e : slot ≡ slot + 0 = omega arith in
    ap (λ (k : ℕ). slice_index c k) e ∙ first_at c slot 22 bytes 0 lead some

-- and the generation stands behind it
lead_generation : (c : List ℕ) (slot n : ℕ) (bytes : List ℕ) → IsLead c slot bytes → HasGeneration 0 n bytes → HasGeneration slot n c
lead_generation c slot n bytes lead g = record { small = g.small; text = held_from c slot 22 1 bytes (to_be_bytes w64 n) lead g.text }

-- two slots whose gates are both open
module _ (c : List ℕ) (slot other : ℕ) (a b : List ℕ) (p : IsLead c slot a) (q : IsLead c other b)
    (some : 0 < length a) (its_some : 0 < length b) (mine its : ℕ) (is : slice_index a 0 ≡ OPEN)
    (also : slice_index b 0 ≡ OPEN) (g : HasGeneration 0 mine a) (h : HasGeneration 0 its b) where
  mine_open : slice_index c slot ≡ OPEN
  mine_open = lead_gate c slot a p some ∙ is

  its_open : slice_index c other ≡ OPEN
  its_open = lead_gate c other b q its_some ∙ also

  pub ruling_older : its < mine → IsRuling slot other true c
  ruling_older less = let long = q.there.long in record {
    rules = record {
      there = omega (arith, long, its_some);
      opened = mine_open;
      over =
          inr (mine, its, lead_generation c slot mine a p g, lead_generation c other its b q h, less);
    };
    gate = (λ t. its_open, λ e. refl);
  }

  pub neither_greater : (k : ℕ) → mine ≡ its → k ≡ other + 1 → RulesNeither slot other c k
  neither_greater k same at = equal mine_open its_open mine (lead_generation c slot mine a p g)
      (subst (λ (x : ℕ). HasGeneration other x c) (sym same) (lead_generation c other its b q h)) at
