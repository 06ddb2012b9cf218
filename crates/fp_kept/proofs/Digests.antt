-- A text and its digest, as one.
use Rattle.std.proofs.Common.{◌≡◌, ℕ, ◌-◌, List, length, take, drop, ap, ap₂, ◌∙◌, length-append, arith}
use Rattle.std.proofs.Math.Seq.{take-append_seam, drop-append_seam}
use Rattle.sha2.specs.Sha256.{sha256}
use Rattle.sha2.proofs.Facts256.{length-sha256}
use Rattle.fp_kept.specs.Kept.{kept_as}

pub kept-length : (bytes text : List ℕ) → bytes ≡ kept_as text → length bytes - 32 ≡ length text
kept-length bytes text is = let all = ap length is in omega (arith, all, length-append text (sha256 text), length-sha256 text)

pub text-of : (bytes text : List ℕ) → bytes ≡ kept_as text → take (length bytes - 32) bytes ≡ text
text-of bytes text is = ap₂ (λ (n : ℕ) (l : List ℕ). take n l) (kept-length bytes text is) is ∙ take-append_seam text (sha256 text)

pub digest-of : (bytes text : List ℕ) → bytes ≡ kept_as text → drop (length bytes - 32) bytes ≡ sha256 text
digest-of bytes text is = ap₂ (λ (n : ℕ) (l : List ℕ). drop n l) (kept-length bytes text is) is ∙ drop-append_seam text (sha256 text)
