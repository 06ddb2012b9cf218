-- Numbers and texts that stand at a place: one at most.
use Rattle.std.proofs.Common.{◌≡◌, ◌<◌, ◌+◌, ◌^◌, ℕ, List, length, sym, ap, ◌∙◌}
use Rattle.std.specs.Prelude.{slice_range}
use Rattle.std.specs.Int.{w32, w64, to_be_bytes, from_be_bytes}
use Rattle.std.proofs.lemmas.Nat.{from_be_bytes-to_be_bytes_4, from_be_bytes-to_be_bytes_8}
use Rattle.fp_journal.specs.Holds.{Holds}
use Rattle.fp_journal.proofs.Holds.{range_held}

pub number64_one : (c : List ℕ) (at m n : ℕ) → Holds c at (to_be_bytes w64 m) → m < 2 ^ 64 →
    Holds c at (to_be_bytes w64 n) → n < 2 ^ 64 → m ≡ n
number64_one c at m n p small q small2 =
    let same : to_be_bytes w64 m ≡ to_be_bytes w64 n = sym (range_held c at (to_be_bytes w64 m) p) ∙
    range_held c at (to_be_bytes w64 n) q in
    sym (from_be_bytes-to_be_bytes_8 m small) ∙ ap (from_be_bytes w64) same ∙ from_be_bytes-to_be_bytes_8 n small2

pub number32_one : (c : List ℕ) (at m n : ℕ) → Holds c at (to_be_bytes w32 m) → m < 2 ^ 32 →
    Holds c at (to_be_bytes w32 n) → n < 2 ^ 32 → m ≡ n
number32_one c at m n p small q small2 =
    let same : to_be_bytes w32 m ≡ to_be_bytes w32 n = sym (range_held c at (to_be_bytes w32 m) p) ∙
    range_held c at (to_be_bytes w32 n) q in
    sym (from_be_bytes-to_be_bytes_4 m small) ∙ ap (from_be_bytes w32) same ∙ from_be_bytes-to_be_bytes_4 n small2

pub text_one : (c : List ℕ) (at : ℕ) (x y : List ℕ) → length x ≡ length y → Holds c at x → Holds c at y → x ≡ y
text_one c at x y len p q = sym (range_held c at x p) ∙ ap (λ (n : ℕ). slice_range c at (at + n)) len ∙ range_held c at y q
