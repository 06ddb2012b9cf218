-- Definitions' texts and their data.
use Rattle.std.proofs.Common.{◌≡◌, ℕ, List, true, Option, Some, None, sym, true≢false}
use Rattle.std.specs.Prelude.{unwrap_or, is_none, bytes_eq}
use Rattle.std.proofs.lemmas.Bool.{and_parts}
use Rattle.std.proofs.lemmas.Slice.Eq.{bytes_eq-Decides}
use Rattle.serde_json.specs.Data.{Data, null}
use Rattle.serde_json.specs.Written.{compact_text}
use Rattle.fp_base.specs.Json.{json_of}
use Rattle.fp_definition.specs.Valid.{first_fault, is_text_of, is_text_of_some, is_definition_text}
use Rattle.fp_documents.specs.Document.{data_of}

by_data : (text : List ℕ) (d : Data) → is_text_of text d ≡ true → compact_text d ≡ text
unfolding is_text_of
by_data text d h = (bytes_eq-Decides (compact_text d) text).0 (and_parts (is_none (first_fault d)) (bytes_eq (compact_text d) text) h).1

by_reading : (text : List ℕ) (o : Option Data) → is_text_of_some text o ≡ true → compact_text (unwrap_or o null) ≡ text
by_reading text None h = absurd (true≢false (sym h))
by_reading text (Some d) h = by_data text d h

-- a definition's text is the canonical one of its data
pub canonical_again : (text : List ℕ) → is_definition_text text ≡ true → compact_text (data_of text) ≡ text
canonical_again text h = by_reading text (json_of text) h
