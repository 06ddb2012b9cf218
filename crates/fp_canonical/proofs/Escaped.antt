-- Bytes, and how a string spells them.
use Rattle.std.proofs.Common.{◌≡◌, ◌≤◌, ◌<◌, ◌+◌, ℕ, List, [], ◌∷◌, ◌++◌, length, take, set}
use Rattle.std.proofs.Common.{slice_range, sym, ap, ap₂, ◌∙◌}
use Rattle.std.proofs.Common.{append-nil}
use Rattle.std.proofs.lemmas.Grind.{flat_map-append}
use Rattle.std.proofs.lemmas.List.{take_more_set}
use Rattle.json.specs.Print.{escape, escape_byte}

-- one more byte, whose spelling comes next
pub escape-more : (bytes room : List ℕ) (at next len byte : ℕ) → at ≤ next → len < length room → take at bytes ≡ escape (take len room)
    → slice_range bytes at next ≡ escape_byte byte → take next bytes ≡ take at bytes ++ slice_range bytes at next →
    take next bytes ≡ escape (take (len + 1) (set room len byte))
escape-more bytes room at next len byte on fits before here both =
    both ∙ ap₂ (λ xs ys. xs ++ ys) before (here ∙ sym (append-nil (escape_byte byte)))
    ∙ sym (flat_map-append escape_byte (take len room) (byte ∷ []))
    ∙ sym (ap escape (take_more_set room len byte fits))
