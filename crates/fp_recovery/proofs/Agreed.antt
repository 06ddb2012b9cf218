-- Bytes that agree with others over a stretch.
use Rattle.std.proofs.Common.{◌≡◌, ◌<◌, ◌≤◌, ◌+◌, ◌-◌, ℕ, List, length, sym, ap, ◌∙◌, arith}
use Rattle.std.specs.Prelude.{slice_index, slice_range}
use Rattle.std.specs.Int.{w64, to_be_bytes}
use Rattle.fp_journal.specs.Holds.{Holds}
use Rattle.fp_journal.proofs.Holds.{held_range}
use Rattle.fp_layout.specs.Layout.{magic, IsHeader}

-- both are as long, and have the same there
pub record Agrees (b c : List ℕ) (from stop : ℕ) : Type 0 where
  pub long : stop ≤ length c
  pub same : (k : ℕ) → from ≤ k → k < stop → slice_index c k ≡ slice_index b k

-- bytes that hold a range of others agree with them there
pub agrees_range : (b c : List ℕ) (at n : ℕ) → at + n ≤ length b → Holds c at (slice_range b at (at + n)) → Agrees b c at (at + n)
agrees_range b c at n fits h =
    let r = held_range b at n fits in let len = r.1 in let long = h.long in record {
      long = omega (arith, len, long);
      same = λ k low high.
          let there : at + (k - at) ≡ k = omega (arith, low) in
          let lt : k - at < length (slice_range b at (at + n)) = omega (arith, low, high, len) in
          ap (λ (j : ℕ). slice_index c j) (sym there) ∙ h.same (k - at) lt ∙ sym (r.0.same (k - at) lt) ∙
          ap (λ (j : ℕ). slice_index b j) there;
    }

pub holds_agreed : (b c : List ℕ) (from stop at : ℕ) (text : List ℕ) → Agrees b c from stop → from ≤ at →
    at + length text ≤ stop → Holds b at text → Holds c at text
holds_agreed b c from stop at text a low high h = let long = a.long in record {
  long = omega (arith, long, high);
  same = λ k lt. a.same (at + k) (omega (arith, low)) (omega (arith, lt, high)) ∙ h.same k lt;
}

-- ---- the header
pub header_agreed : (b c : List ℕ) (size : ℕ) → IsHeader b size → Agrees b c 0 64 → 65 + size ≤ length c → IsHeader c size
header_agreed b c size h a long = record {
  formatted = record {
    long = omega (arith, long, h.allowed.least);
    gate = a.same 0 (omega arith) (omega arith) ∙
        h.formatted.gate;
    magic_text =
        holds_agreed b c 0 64 1 magic a (omega arith) (omega arith) h.formatted.magic_text;
  };
  version = a.same 9 (omega arith) (omega arith) ∙ h.version;
  size_text = holds_agreed b c 0 64 10 (to_be_bytes w64 size) a (omega arith) (omega arith) h.size_text;
  allowed = h.allowed;
  zeros = λ k low high. a.same k (omega arith) high ∙ h.zeros k low high;
  long = long;
}
