-- The head of a slot, place by place, and by its first bytes.
use Rattle.std.proofs.Common.{◌≡◌, ◌<◌, ◌≤◌, ◌+◌, ◌/◌, ◌^◌, ℕ, List, [], ◌∷◌, ◌++◌, length, refl, sym, subst, ◌∙◌, arith, ap}
use Rattle.std.specs.Prelude.{slice_index}
use Rattle.std.specs.Int.{w32, w64, to_be_bytes}
use Rattle.fp_gate.specs.declared.gate.TheConstants.{OPEN}
use Rattle.fp_journal.specs.Holds.{Holds}
use Rattle.fp_journal.proofs.Holds.{byte_held, holds_append, holds_byte, holds_front, holds_back}
use Rattle.fp_journal.proofs.Firsts.{first_at, held_from, held_in}
use Rattle.fp_layout.specs.Layout.{IsHead, HasVersion, HasBase, HasLength, front_text}
use Rattle.fp_layout.proofs.Numbers.{text_one}
use Rattle.fp_slots.specs.Head.{IsVersion, head_text}
use Rattle.fp_slots.specs.Rules.{HasGeneration, IsLead}

-- ---- place by place
pub head_length : (version generation base : ℕ) (image : List ℕ) → length (head_text version generation base image) ≡ 22 + length image
head_length version generation base image = omega arith

-- the image stands behind the rest
pub head_split : (version generation base : ℕ) (image : List ℕ) →
    head_text version generation base image ≡ front_text version generation base (length image) ++ image
head_split version generation base image = refl

module _ (at version generation base : ℕ) (image c : List ℕ) where
  abbrev Len : List ℕ
  Len = to_be_bytes w32 (length image) ++ image

  abbrev Base : List ℕ
  Base = to_be_bytes w64 base ++ Len

  abbrev Version : List ℕ
  Version = version ∷ Base

  abbrev Generation : List ℕ
  Generation = to_be_bytes w64 generation ++ Version

  place : (k n : ℕ) → k ≡ n → (t : List ℕ) → Holds c k t → Holds c n t
  place k n is t h = subst (λ (m : ℕ). Holds c m t) is h

  pub head_places : (size : ℕ) → IsVersion version → generation < 2 ^ 64 → base < 2 ^ 63 → length image ≤ size / 2 →
      Holds c at (head_text version generation base image) → IsHead c at size version generation base image
  head_places size known numbered low small h =
      let g : Holds c (at + 1) Generation = holds_back c at (OPEN ∷ []) Generation h in
      let v : Holds c (at + 9) Version =
      place (at + 1 + 8) (at + 9) (omega arith) Version
      (holds_back c (at + 1) (to_be_bytes w64 generation) Version g) in
      let b : Holds c (at + 10) Base = place (at + 9 + 1) (at + 10) (omega arith) Base (holds_back c (at + 9) (version ∷ []) Base v) in
      let l : Holds c (at + 18) Len =
      place (at + 10 + 8) (at + 18) (omega arith) Len (holds_back c (at + 10) (to_be_bytes w64 base) Len b) in
      let long = b.long in record {
        generation_is = record { small = numbered; text = holds_front c (at + 1) (to_be_bytes w64 generation) Version g };
        version_is = record { long = omega (arith, long); is = byte_held c (at + 9) version Base v; known = known };
        base_is = record { text = holds_front c (at + 10) (to_be_bytes w64 base) Len b; small = low };
        length_is = record { text = holds_front c (at + 18) (to_be_bytes w32 (length image)) image l; small = small };
        image_text = place (at + 18 + 4) (at + 22) (omega arith) image (holds_back c (at + 18) (to_be_bytes w32 (length image)) image l);
      }

-- and back
pub front_whole : (c : List ℕ) (at size version generation base len : ℕ) → slice_index c at ≡ OPEN →
    HasGeneration at generation c → HasVersion c at version → HasBase c at base → HasLength c at size len →
    Holds c at (front_text version generation base len)
front_whole c at size version generation base len open_is g has low small =
    let long = has.long in let Len : List ℕ = to_be_bytes w32 len in
    let Base : List ℕ = to_be_bytes w64 base ++ Len in let Version : List ℕ = version ∷ Base in
    let b : Holds c (at + 10) Base =
    holds_append c (at + 10) (to_be_bytes w64 base) Len low.text (let is : at + 18 ≡ at + 10 + 8 = omega arith in
    subst (λ (k : ℕ). Holds c k Len) is small.text) in
    let one : Holds c (at + 9) (version ∷ []) =
    subst (λ (x : ℕ). Holds c (at + 9) (x ∷ [])) has.is (holds_byte c (at + 9) (omega (arith, long))) in
    let v : Holds c (at + 9) Version =
    holds_append c (at + 9) (version ∷ []) Base one (let is : at + 10 ≡ at + 9 + 1 = omega arith in
    subst (λ (k : ℕ). Holds c k Base) is b) in
    let gs : Holds c (at + 1) (to_be_bytes w64 generation ++ Version) =
    holds_append c (at + 1) (to_be_bytes w64 generation) Version g.text
    (let is : at + 9 ≡ at + 1 + 8 = omega arith in subst (λ (k : ℕ). Holds c k Version) is v) in
    let gate : Holds c at (OPEN ∷ []) = subst (λ (x : ℕ). Holds c at (x ∷ [])) open_is (holds_byte c at (omega (arith, long))) in
    holds_append c at (OPEN ∷ []) (to_be_bytes w64 generation ++ Version) gate gs

pub head_whole : (at version generation base : ℕ) (image c : List ℕ) (size : ℕ) → slice_index c at ≡ OPEN →
    IsHead c at size version generation base image → Holds c at (head_text version generation base image)
head_whole at version generation base image c size open_is h =
    subst (λ (t : List ℕ). Holds c at t) (sym (head_split version generation base image))
    (holds_append c at (front_text version generation base (length image)) image
    (front_whole c at size version generation base (length image) open_is h.generation_is h.version_is h.base_is
    h.length_is)
    (let is : at + 22 ≡ at + length (front_text version generation base (length image)) = omega arith in
    subst (λ (k : ℕ). Holds c k image) is h.image_text))

-- ---- by the first bytes
module _ (c : List ℕ) (at : ℕ) (bytes : List ℕ) (lead : IsLead c at bytes) where
  pub version_from : (version : ℕ) → HasVersion bytes 0 version → HasVersion c at version
  version_from version v = let there = lead.there.long in let long = v.long in
      record {
        long = omega (arith, there, long);
        is = first_at c at 22 bytes 9 lead (omega (arith, long)) ∙
            v.is;
        known = v.known;
      }

  pub base_in : (base : ℕ) → HasBase c at base → HasBase bytes 0 base
  base_in base b = record { text = held_in c at 22 10 bytes (to_be_bytes w64 base) lead (omega arith) b.text; small = b.small }

  pub base_from : (base : ℕ) → HasBase bytes 0 base → HasBase c at base
  base_from base b = record { text = held_from c at 22 10 bytes (to_be_bytes w64 base) lead b.text; small = b.small }

  pub length_in : (size len : ℕ) → HasLength c at size len → HasLength bytes 0 size len
  length_in size len l = record { text = held_in c at 22 18 bytes (to_be_bytes w32 len) lead (omega arith) l.text; small = l.small }

  pub length_from : (size len : ℕ) → HasLength bytes 0 size len → HasLength c at size len
  length_from size len l = record { text = held_from c at 22 18 bytes (to_be_bytes w32 len) lead l.text; small = l.small }

-- they are that text, where they are all there
pub lead_text : (bytes : List ℕ) (size version generation base len : ℕ) → length bytes ≡ 22 →
    slice_index bytes 0 ≡ OPEN → HasGeneration 0 generation bytes → HasVersion bytes 0 version →
    HasBase bytes 0 base → HasLength bytes 0 size len → bytes ≡ front_text version generation base len
lead_text bytes size version generation base len whole open_is g has low small =
    let all : Holds bytes 0 bytes =
    record {
      long = omega arith;
      same = λ k lt. let e : 0 + k ≡ k = omega arith in
          ap (λ (j : ℕ). slice_index bytes j) e;
    } in
    text_one bytes 0 bytes (front_text version generation base len) (omega (arith, whole)) all
    (front_whole bytes 0 size version generation base len open_is g has low small)
