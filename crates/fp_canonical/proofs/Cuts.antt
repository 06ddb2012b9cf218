-- Where a text may be cut: behind an ASCII byte.
use Rattle.std.proofs.Common.{◌≡◌, ◌<◌, ◌+◌, ℕ, List, length, get_or, subst}
use Rattle.std.proofs.lemmas.Str.{IsCharBoundary-after_ascii}
use Rattle.std.specs.Str.{IsCharBoundary, IsUtf8}

pub cut_behind : (bytes text : List ℕ) (at : ℕ) → bytes ≡ text → IsUtf8 bytes → at < length bytes → get_or bytes at 0 < 128 →
    IsCharBoundary text (at + 1)
cut_behind bytes text at same utf8 within ascii =
    subst (λ xs. IsCharBoundary xs (at + 1)) same (IsCharBoundary-after_ascii bytes at utf8 within ascii)
