-- Which bytes are the canonical text of a definition.
use Rattle.std.proofs.Common.{◌≡◌, ℕ, List, true, Some, ap, ◌∙◌, rules}
use Rattle.std.specs.Prelude.{bytes_eq}
use Rattle.serde_json.specs.Data.{Data}
use Rattle.serde_json.specs.Written.{compact_text}
use Rattle.fp_base.specs.Json.{json_of}
use Rattle.fp_definition.specs.Valid.{IsValid, is_text_of, is_text_of_some, is_definition_text}

bytes_eq-itself : (xs : List ℕ) → bytes_eq xs xs ≡ true
bytes_eq-itself xs = search rules

is_text_of-compact_text : (text : List ℕ) (d : Data) → IsValid d → text ≡ compact_text d → is_text_of text d ≡ true
unfolding is_text_of
is_text_of-compact_text text d valid same = rw (valid, same) (bytes_eq-itself (compact_text d))

-- a definition's canonical text is one, where it is read as this definition
pub is_definition_text-compact_text : (text : List ℕ) (d : Data) → json_of text ≡ Some d → IsValid d →
    text ≡ compact_text d → is_definition_text text ≡ true
is_definition_text-compact_text text d reads valid same = ap (is_text_of_some text) reads ∙ is_text_of-compact_text text d valid same
