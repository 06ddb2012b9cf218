-- Sixteen bytes as a head.
use Rattle.std.proofs.Common.{◌≡◌, ℕ, ◌+◌, ◌<◌, List, ◌++◌, length, get_or, take, drop, sym, ap, ap₂, ◌∙◌, arith, codes, inl, inr}
use Rattle.std.specs.Prelude.{slice_range}
use Rattle.std.specs.Int.{w32, w64, from_be_bytes, to_be_bytes}
use Rattle.std.proofs.lemmas.Bool.{cases_lt}
use Rattle.std.proofs.lemmas.List.{take-append-drop, drop-drop, take_all, length-take, length-drop, get_or-drop, get_or-take, get_or_past}
use Rattle.std.proofs.lemmas.Nat.{be_bytes_4, be_bytes_8}
use Rattle.fp_stream.specs.Heads.{head}

abbrev pub AreBytes : List ℕ → Type 0
AreBytes bytes = (i : ℕ) → get_or bytes i 0 < 256

AreBytes-drop : (n : ℕ) (bytes : List ℕ) → AreBytes bytes → AreBytes (drop n bytes)
AreBytes-drop n bytes h i = rw get_or-drop (h (n + i))

AreBytes-take : (n : ℕ) (bytes : List ℕ) → AreBytes bytes → AreBytes (take n bytes)
AreBytes-take n bytes h i =
    elim (cases_lt i n) [
      | inl lt ↦ rw (get_or-take n bytes i 0 lt) (h i)
      | inr le ↦ rw (get_or_past (take n bytes) i 0 (omega (arith, length-take n bytes))) (omega arith)
    ]

-- the parts between are the whole
parts : (bytes : List ℕ) → length bytes ≡ 16 → bytes ≡ take 4 bytes ++ (slice_range bytes 4 12 ++ slice_range bytes 12 16)
parts bytes long =
    let behind : drop 4 bytes ≡ slice_range bytes 4 12 ++ drop 12 bytes = sym (take-append-drop 8 (drop 4 bytes)) ∙
    ap (λ (t : List ℕ). take 8 (drop 4 bytes) ++ t) (drop-drop 8 4 bytes) in
    let last : drop 12 bytes ≡ slice_range bytes 12 16 = sym (take_all 4 (drop 12 bytes) (omega (arith, length-drop 12 bytes))) in
    sym (take-append-drop 4 bytes) ∙ ap (λ (t : List ℕ). take 4 bytes ++ t) (behind ∙ ap (λ (t : List ℕ). slice_range bytes 4 12 ++ t) last)

-- sixteen bytes of which the first four are right are a head
pub head_read : (bytes : List ℕ) (revision size : ℕ) → length bytes ≡ 16 → AreBytes bytes →
    take 4 bytes ≡ codes "SNP1" → revision ≡ from_be_bytes w64 (slice_range bytes 4 12) →
    size ≡ from_be_bytes w32 (slice_range bytes 12 16)
    → bytes ≡ head revision size
head_read bytes revision size long fits magic r s =
    let long8 : length (slice_range bytes 4 12) ≡ 8 = omega (arith, length-take 8 (drop 4 bytes), length-drop 4 bytes) in
    let long4 : length (slice_range bytes 12 16) ≡ 4 = omega (arith, length-take 4 (drop 12 bytes), length-drop 12 bytes) in
    let rev : to_be_bytes w64 revision ≡ slice_range bytes 4 12 =
    be_bytes_8 (slice_range bytes 4 12) revision long8
    (AreBytes-take 8 (drop 4 bytes) (AreBytes-drop 4 bytes fits)) r in
    let size_is : to_be_bytes w32 size ≡ slice_range bytes 12 16 =
    be_bytes_4 (slice_range bytes 12 16) size long4
    (AreBytes-take 4 (drop 12 bytes) (AreBytes-drop 12 bytes fits)) s in
    parts bytes long ∙ ap₂ (λ (a b : List ℕ). a ++ b) magic (ap₂ (λ (a b : List ℕ). a ++ b) (sym rev) (sym size_is))
