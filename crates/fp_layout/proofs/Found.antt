-- What was found in a slot, as it stands on the disk.
use Rattle.std.proofs.Common.{◌≡◌, ◌<◌, ◌≤◌, ◌+◌, ◌/◌, ◌^◌, ℕ, List, ◌∷◌, ◌++◌, [], length, sym, subst, ◌∙◌, ap, arith, length-append}
use Rattle.std.specs.Prelude.{slice_range}
use Rattle.fp_journal.specs.Chain.{spell}
use Rattle.fp_journal.specs.Holds.{Holds}
use Rattle.fp_journal.specs.Reading.{FoundChain, ReadsChain}
use Rattle.fp_journal.specs.declared.slot.Slot.{Slot}
use Rattle.fp_journal.proofs.Holds.{holds_append, holds_front, range_held}
use Rattle.fp_journal.proofs.Links.{found_of, text_found}
use Rattle.fp_slots.specs.Head.{IsVersion, head_text}
use Rattle.fp_layout.specs.Layout.{IsHead, front_text}
use Rattle.fp_layout.specs.Opening.{FoundFront, FoundDisk}
use Rattle.fp_layout.proofs.Heads.{head_places, head_split}

-- ---- the head
module _ (version generation base len : ℕ) (text image : List ℕ)
    (text_is : text ≡ front_text version generation base len) (len_is : length image ≡ len) where
  -- with the image behind it
  pub head_is : text ++ image ≡ head_text version generation base image
  head_is = ap (λ (t : List ℕ). t ++ image) (text_is ∙ ap (front_text version generation base) (sym len_is)) ∙
      sym (head_split version generation base image)

  pub head_there : (c : List ℕ) (at : ℕ) → Holds c at text → Holds c (at + 22) image → Holds c at (text ++ image)
  head_there c at front behind = let long = ap length text_is in let is : at + 22 ≡ at + length text = omega (arith, long) in
      holds_append c at text image front (subst (λ (k : ℕ). Holds c k image) is behind)

  pub head_found : (c : List ℕ) (at size : ℕ) → IsVersion version → generation < 2 ^ 64 → base < 2 ^ 63 →
      len ≤ size / 2 → Holds c at text → Holds c (at + 22) image → IsHead c at size version generation base image
  head_found c at size known numbered low small front behind =
      head_places at version generation base image c size known numbered low (omega (arith, small, len_is))
      (subst (λ (t : List ℕ). Holds c at t) head_is (head_there c at front behind))

-- ---- all of it
module _ {R : Type 0} (honest : Type 0) (begins : R → ℕ → ℕ → ℕ → List ℕ → R → Type 0)
    (takes : R → List ℕ → R → Type 0) (c : List ℕ) (before middle after : R) (slot : Slot) (at : ℕ)
    (old new : List ℕ) (end : ℕ) (h : honest) (front : FoundFront begins c before middle slot at)
    (there : Holds c slot.start old) (place : at ≡ slot.start + length old)
    (chain : ReadsChain honest takes slot.most at slot.stop c middle after old new end) where
  -- the text stands there
  pub text_there : Holds c slot.start new
  text_there = let ends = text_found honest takes slot.most at slot.stop slot.start c middle after old new end h
      chain there place in holds_front c slot.start new (ends.gate ∷ []) ends.holds

  pub chain_end : end ≡ slot.start + length new
  chain_end = let at_end = chain.place in let all = ap length chain.text in
      let both = length-append old (spell chain.bodies) in omega (arith, place, at_end, all, both)

  pub text_range : new ≡ slice_range c slot.start end
  text_range = sym (range_held c slot.start new text_there) ∙ ap (λ (n : ℕ). slice_range c slot.start n) (sym chain_end)

  -- and the disk has it
  pub disk_found : FoundDisk begins takes c before after slot new
  disk_found = record {
    at = at;
    middle = middle;
    begun = front;
    chain = subst (λ (n : ℕ). FoundChain takes slot.most at slot.stop c middle after n) chain_end
        (found_of honest takes slot.most at slot.stop c middle after old new end h chain);
    front_is = sym (range_held c slot.start new text_there);
  }
