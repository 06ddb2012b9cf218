-- How large the slots of a store are.
use Rattle.std.proofs.Common.{◌≡◌, ◌⊎◌, ◌+◌, ◌-◌, ◌*◌, ◌/◌, ◌^◌, ℕ, true, false, List, ap, refl, inl, inr, ⊎_elim, ◌∙◌, lit<, arith}
use Rattle.std.specs.Prelude.{IsTrue, nat_lt}
use Rattle.std.specs.Int.{is_power_of_two}
use Rattle.std.specs.Int.Count.{ones, ones-ones}
use Rattle.std.proofs.lemmas.Nat.{ones_cat, zero_from_ones}
use borrow.Author.Tests.{eqb-true, leb-true, leb-false}
use Rattle.fp_disk.specs.Outcomes.{PendingState}
use Rattle.fp_edit.specs.Edits.{Change}
use Rattle.fp_edit.specs.Flags.{State}
use Rattle.fp_layout.specs.Size.{IsSlotSize, other_side}
use Rattle.fp_record.specs.Group.{Group}
use Rattle.fp_group_commit.proofs.Steps.{wide_of}
use Rattle.fp_group_commit.specs.Changes.{HasRoom}
use Rattle.fp_group_commit.specs.Inside.{HasPlace, Inside, seen}
use Rattle.fp_group_commit.specs.Sound.{IsSound}

module _ {D : Type 0} (honest : D → Type 0) (unsynced : D → PendingState) {s : Inside D} {set : State} {first : ℕ}
    {ahead copies : List Change} (i : IsSound honest unsynced s set first ahead copies) where
  -- a quarter of the other slot is half of what a set may take
  pub quarter : (s.slots.other.stop - s.slots.other.start) / 4 ≡ s.store.start.limit / 2
  quarter =
      let long = wide_of i.size (other_side i.placed.side) s.slots.other i.placed.its in let half = i.placed.half in
      omega (arith, long, half)

  -- so there is room for a batch where the slots have it
  pub room_of : (group : Group) → HasPlace s.slots group → HasRoom (seen s) group
  room_of group p = record {
    some = p.some;
    few = p.few;
    short = p.room.short;
    fits = p.room.fits;
    early = p.room.early;
    tail = λ begins. (let tail = p.room.tail begins in let same = quarter in omega (arith, tail, same));
    allowed = p.allowed;
  }

  pub place_of : (group : Group) → HasRoom (seen s) group → HasPlace s.slots group
  place_of group h = record {
    some = h.some;
    few = h.few;
    room = record {
      short = h.short;
      fits = h.fits;
      early = h.early;
      tail = λ begins. (let tail = h.tail begins in let same = quarter in omega (arith, tail, same));
    };
    allowed = h.allowed;
  }

-- a size is a power of two, and so twice its half
odd : (n : ℕ) → n ≡ n / 2 * 2 ^ 1 + 1 → IsTrue (is_power_of_two n) → n ≡ 1
odd n is power =
    let one : ones n ≡ 1 = eqb-true _ _ power in
    let parts : ones n ≡ ones (n / 2) + ones 1 = ap ones is ∙ ones_cat 1 (n / 2) 1 (lit< tt) in
    let single : ones 1 ≡ 1 = ones-ones 1 in
    let none = zero_from_ones (n / 2) (omega (arith, one, parts, single)) in
    omega (arith, is, none)

pub halves : (n : ℕ) → IsSlotSize n → n ≡ 2 * (n / 2)
halves n allowed =
    ⊎_elim (λ even. omega (arith, even)) (λ at. let least = allowed.least in let one = odd n at allowed.power in
    absurd (omega (arith, least, one))) (parity n)
  where
    parity : (m : ℕ) → (m ≡ 2 * (m / 2)) ⊎ (m ≡ m / 2 * 2 ^ 1 + 1)
    parity m = elim (nat_lt (m / 2 * 2) m) as (λ t. nat_lt (m / 2 * 2) m ≡ t → (m ≡ 2 * (m / 2)) ⊎ (m ≡ m / 2 * 2 ^ 1 + 1)) [
      | true ↦ λ e. (let more = leb-true _ _ e in inr (omega (arith, more)))
      | false ↦ λ e. (let less = leb-false _ _ e in inl (omega (arith, less)))
    ] refl
