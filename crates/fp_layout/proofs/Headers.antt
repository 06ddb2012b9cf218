-- The header of a disk, by its first bytes.
use Rattle.std.proofs.Common.{◌≡◌, ◌<◌, ◌≤◌, ◌+◌, ◌^◌, ℕ, List, length, sym, ◌∙◌, ap, arith}
use Rattle.std.specs.Prelude.{slice_index}
use Rattle.std.specs.Int.{w64, to_be_bytes}
use Rattle.fp_journal.specs.Holds.{Holds}
use Rattle.fp_journal.specs.Firsts.{AreFirst}
use Rattle.fp_journal.proofs.Firsts.{first_at, held_from, held_in}
use Rattle.fp_layout.specs.Faults.{BreaksHeader, RefusesHeader}
use Rattle.fp_layout.specs.Layout.{IsFormatted, AreZeros, IsFirstOther, magic}
use Rattle.fp_layout.specs.declared.fault.OpenFault.TheVariants.{Damaged}

module _ (c bytes : List ℕ) (first : AreFirst c 0 64 bytes) (whole : 64 ≤ length bytes) where
  pub byte_from : (k : ℕ) → k < 64 → slice_index c k ≡ slice_index bytes k
  byte_from k lt = let e : k ≡ 0 + k = omega arith in
      ap (λ (j : ℕ). slice_index c j) e ∙ first_at c 0 64 bytes k first (omega (arith, lt, whole))

  pub formatted_from : IsFormatted bytes → IsFormatted c
  formatted_from f = let long = first.there.long in record {
    long = omega (arith, long, whole);
    gate = byte_from 0 (omega arith) ∙ f.gate;
    magic_text = held_from c 0 64 1 bytes magic first f.magic_text;
  }

  pub size_from : (size : ℕ) → Holds bytes 10 (to_be_bytes w64 size) → Holds c 10 (to_be_bytes w64 size)
  size_from size h = held_from c 0 64 10 bytes (to_be_bytes w64 size) first h

  pub zeros_from : AreZeros bytes 18 64 → AreZeros c 18 64
  zeros_from z = λ k low lt. byte_from k lt ∙ z k low lt

  pub other_from : (k : ℕ) → IsFirstOther bytes 18 64 k → IsFirstOther c 18 64 k
  other_from k o = let before = o.before in record {
    after = o.after;
    before = before;
    other = λ e. o.other (sym (byte_from k before) ∙ e);
    zeros = λ j low lt. byte_from j (omega (arith, lt, before)) ∙ o.zeros j low lt;
  }

-- the other way
pub formatted_in : (c bytes : List ℕ) → AreFirst c 0 64 bytes → IsFormatted c → IsFormatted bytes
formatted_in c bytes first f = let long = f.long in let many = first.many in
    let whole : 64 ≤ length bytes = omega (arith, long, many) in record {
      long = whole;
      gate = sym (byte_from c bytes first whole 0 (omega arith)) ∙ f.gate;
      magic_text = held_in c 0 64 1 bytes magic first (omega arith) f.magic_text;
    }

-- a header that is damaged
pub refuses_from : (c bytes : List ℕ) → AreFirst c 0 64 bytes → IsFormatted bytes → slice_index bytes 9 ≡ 1 →
    (n : ℕ) → n < 2 ^ 64 → Holds bytes 10 (to_be_bytes w64 n) → (k : ℕ) → BreaksHeader c n k →
    RefusesHeader c (Damaged k)
refuses_from c bytes first formatted version n fits holds k broken = let whole = formatted.long in (
  formatted_from c bytes first whole formatted,
  byte_from c bytes first whole 9 (omega arith) ∙ version,
  (n, fits, size_from c bytes first whole n holds, broken),
)
