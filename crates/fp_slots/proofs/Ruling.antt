-- Which slot rules in bytes, by what stands in them.
use Rattle.std.proofs.Common.{Bool, true, false, ◌≡◌, ◌≢◌, inl, inr, ⊎_elim, ℕ, ◌+◌, ◌<◌, ◌^◌, List, [], ◌∷◌, ◌++◌}
use Rattle.std.proofs.Common.{length, sym, ◌∙◌, ap, subst, arith}
use Rattle.std.specs.Prelude.{slice_index}
use Rattle.std.specs.Int.{w64, to_be_bytes, from_be_bytes}
use Rattle.std.proofs.lemmas.Nat.{from_be_bytes-to_be_bytes_8}
use Rattle.fp_journal.specs.Holds.{Holds}
use Rattle.fp_journal.specs.Chain.{spell}
use Rattle.fp_journal.specs.State.{ClaimsAt, HasAmong, HasChain, has_begun}
use Rattle.fp_gate.specs.declared.gate.TheConstants.{OPEN}
use Rattle.fp_journal.specs.declared.slot.Slot.{Slot}
use Rattle.fp_journal.specs.declared.journal.Phase.{Phase}
use Rattle.fp_journal.proofs.Holds.{byte_held, holds_front, holds_back, range_held}
use Rattle.fp_slots.specs.Rules.{HasGeneration, Rules, RulesNeither, none_open, cut, equal}
use Rattle.fp_slots.specs.State.{IsFrontOf}

-- ---- one slot
generation_one : (slot m n : ℕ) (c : List ℕ) → HasGeneration slot m c → HasGeneration slot n c → m ≡ n
generation_one slot m n c p q =
    let same : to_be_bytes w64 m ≡ to_be_bytes w64 n = sym (range_held c (slot + 1) (to_be_bytes w64 m) p.text) ∙
    range_held c (slot + 1) (to_be_bytes w64 n) q.text in
    sym (from_be_bytes-to_be_bytes_8 m p.small) ∙ ap (from_be_bytes w64) same ∙ from_be_bytes-to_be_bytes_8 n q.small

-- each is the smaller one
not_both : (slot other : ℕ) (c : List ℕ) →
    ((mine its : ℕ) × HasGeneration slot mine c × HasGeneration other its c × (its < mine)) →
    ((mine its : ℕ) × HasGeneration other mine c × HasGeneration slot its c × (its < mine)) → ⊥
not_both slot other c p q =
    let a = generation_one slot p.0 q.1 c p.2 q.3 in let b = generation_one other p.1 q.0 c p.3 q.2 in let x = p.4 in
    let y = q.4 in omega (arith, a, b, x, y)

pub rules_alone : (c : List ℕ) (slot other : ℕ) → Rules slot other c → Rules other slot c → ⊥
rules_alone c slot other p q =
    ⊎_elim (λ shut. shut q.opened)
    (λ mine. ⊎_elim (λ shut. shut p.opened) (λ its. not_both slot other c mine its) q.over) p.over

-- a generation is whole only where all of it is there
both_open : (slot other : ℕ) (c : List ℕ) → slice_index c other ≡ OPEN → Rules slot other c → (mine its : ℕ) ×
    HasGeneration slot mine c × HasGeneration other its c × (its < mine)
both_open slot other c is r = ⊎_elim (λ shut. absurd (shut is)) (λ g. g) r.over

pub refuses_rightly : (c : List ℕ) (first second k : ℕ) → RulesNeither first second c k →
    (Rules first second c → ⊥) × (Rules second first c → ⊥)
refuses_rightly c first second k (none_open a b is) = (λ r. a r.opened, λ r. b r.opened)
refuses_rightly c first second k (cut a b short is) = (
  λ r. let g = both_open first second c b r in let long = g.3.text.long in
      omega (arith, long, short),
  λ r. let g = both_open second first c a r in let long = g.2.text.long in
      omega (arith, long, short),
)
refuses_rightly c first second k (equal a b n p q is) = (
  λ r. let g = both_open first second c b r in let x = generation_one first g.0 n c g.2 p in
      let y = generation_one second g.1 n c g.3 q in let less = g.4 in omega (arith, x, y, less),
  λ r. let g = both_open second first c a r in let x = generation_one second g.0 n c g.2 q in
      let y = generation_one first g.1 n c g.3 p in let less = g.4 in omega (arith, x, y, less),
)

-- ---- the slot of a journal
pub among_front : (begun : Bool) (slot : Slot) (front : List ℕ) (bodies : List (List ℕ)) (body c : List ℕ) →
    HasAmong begun slot front bodies body c → Holds c slot.start front
among_front begun slot front bodies body c is = held begun is
  where
    chain : (bs : List (List ℕ)) → HasChain slot front bs c → Holds c slot.start front
    chain bs e = holds_front c slot.start front (spell bs) (holds_front c slot.start (front ++ spell bs) (e.gate ∷ []) e.holds)

    held : (b : Bool) → HasAmong b slot front bodies body c → Holds c slot.start front
    held false e = chain bodies e
    held true e = ⊎_elim (chain bodies) (chain (bodies ++ body ∷ [])) e

pub claims_front : (p : Phase) (begun : Bool) (slot : Slot) (front : List ℕ) (bodies : List (List ℕ))
    (body c : List ℕ) → ClaimsAt p begun slot front bodies body c → Holds c slot.start front
claims_front p begun slot front bodies body c is = among_front (has_begun p begun) slot front bodies body c is

module _ {version : ℕ} (slot generation : ℕ) (front c : List ℕ) (f : IsFrontOf version generation front) (h : Holds c slot front) where
  all : Holds c slot (OPEN ∷ (to_be_bytes w64 generation ++ version ∷ f.rest))
  all = subst (λ (t : List ℕ). Holds c slot t) f.front_is h

  pub front_open : slice_index c slot ≡ OPEN
  front_open = byte_held c slot OPEN (to_be_bytes w64 generation ++ version ∷ f.rest) all

  pub front_there : slot < length c
  front_there = let long = all.long in omega (arith, long)

  pub front_generation : generation < 2 ^ 64 → HasGeneration slot generation c
  front_generation small = record {
    small = small;
    text = holds_front c (slot + 1) (to_be_bytes w64 generation) (version ∷ f.rest)
        (holds_back c slot (OPEN ∷ []) (to_be_bytes w64 generation ++ version ∷ f.rest) all);
  }

  -- it rules where the other one is closed
  pub rules_shut : (other gate : ℕ) → gate ≢ OPEN → Holds c other (gate ∷ []) → Rules slot other c
  rules_shut other gate shut g = let long = g.long in
      record {
        there = omega (arith, long);
        opened = front_open;
        over =
            inl (λ e. shut (sym (byte_held c other gate [] g) ∙ e));
      }

  -- or older, whatever its gate is
  pub rules_older : (other its : ℕ) → generation < 2 ^ 64 → its < 2 ^ 64 → its < generation →
      Holds c (other + 1) (to_be_bytes w64 its) → Rules slot other c
  rules_older other its small its_small less g = let long = g.long in
      record {
        there = omega (arith, long);
        opened = front_open;
        over =
            inr (generation, its, front_generation small, record { small = its_small; text = g }, less);
      }
