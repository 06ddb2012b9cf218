-- Which bytes are JSON.
use Rattle.std.proofs.Common.{◌≡◌, ℕ, List, true, false, Some, None, refl}
use Rattle.std.specs.Prelude.{if◌then◌else◌}
use Rattle.std.specs.Str.{IsUtf8, is_utf8}
use Rattle.std.proofs.lemmas.Str.{IsUtf8-from_is_utf8, is_utf8-from_IsUtf8}
use Rattle.serde_json.specs.Data.{Data}
use Rattle.serde_json.specs.Read.{read}
use Rattle.fp_base.specs.Json.{json_of}

-- text that reads
pub json_of_read : (bytes : List ℕ) (d : Data) → IsUtf8 bytes → read bytes ≡ Some d → json_of bytes ≡ Some d
unfolding json_of
json_of_read bytes d text reads = rw (is_utf8-from_IsUtf8 bytes text) reads

-- bytes that aren't text, or text that doesn't read
pub json_of_refused : (bytes : List ℕ) → (IsUtf8 bytes → read bytes ≡ None) → json_of bytes ≡ None
unfolding json_of
json_of_refused bytes none =
    elim (is_utf8 bytes) as (λ b. is_utf8 bytes ≡ b → (if b then read bytes else None) ≡ None) [
      | true ↦ λ e. none (IsUtf8-from_is_utf8 bytes e)
      | false ↦ λ e. refl
    ] refl
