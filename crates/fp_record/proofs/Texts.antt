-- Definitions' texts are short.
use Rattle.std.proofs.Common.{◌≡◌, ◌≤◌, ℕ, Bool, true, false, cond, leb, List, ◌∷◌, length, Some, None, refl, subst}
use Rattle.std.specs.Prelude.{bytes_eq, is_none}
use Rattle.std.proofs.lemmas.Bool.{leb-true}
use Rattle.std.proofs.lemmas.Slice.Eq.{bytes_eq-Decides}
use Rattle.serde_json.specs.Data.{Data, depth}
use Rattle.serde_json.specs.Written.{compact_text}
use Rattle.fp_base.specs.Json.{json_of}
use Rattle.fp_base.specs.Tests.{first_failed}
use Rattle.fp_base.specs.Whole.{is_whole}
use Rattle.fp_definition.specs.Valid.{Fault, member_tests, too_deep, whole_numbers_only, too_large, first_fault}
use Rattle.fp_definition.specs.Valid.{is_text_of, is_text_of_some, is_definition_text}
use Rattle.fp_record.proofs.Places.{both_true}
use Rattle.fp_definition.specs.declared.definition.TheConstants.{DEEPEST_DEFINITION, LONGEST_DEFINITION}

-- where no test failed, the first was met
pub first_met : {F : Type 0} (t : Bool × F) (ts : List (Bool × F)) → is_none (first_failed (t ∷ ts)) ≡ true →
    (t.0 ≡ true) × (is_none (first_failed ts) ≡ true)
first_met {F = F} t ts e = elim t.0 as
    (λ (b : Bool). is_none (cond b (first_failed ts) (Some t.1)) ≡ true → (b ≡ true) ×
    (is_none (first_failed ts) ≡ true)) [
      | true ↦ λ h. (refl, h)
      | false ↦ λ h. absurd cc
    ] e

text_short : (text : List ℕ) (d : Data) → is_text_of text d ≡ true → length text ≤ LONGEST_DEFINITION
unfolding is_text_of
text_short text d e =
    let both = both_true (is_none (first_fault d)) (bytes_eq (compact_text d) text) e in
    let third : List (Bool × Fault) = (leb (length (compact_text d)) LONGEST_DEFINITION, too_large) ∷ member_tests d in
    let second : List (Bool × Fault) = (is_whole d, whole_numbers_only) ∷ third in
    let flat = first_met (leb (depth d) DEEPEST_DEFINITION, too_deep) second both.0 in
    let counted = first_met (is_whole d, whole_numbers_only) third flat.1 in
    let short = first_met (leb (length (compact_text d)) LONGEST_DEFINITION, too_large) (member_tests d) counted.1 in
    let same : compact_text d ≡ text = (bytes_eq-Decides (compact_text d) text).0 both.1 in
    subst (λ (t : List ℕ). length t ≤ LONGEST_DEFINITION) same (leb-true _ _ short.0)

pub definition_short : (text : List ℕ) → is_definition_text text ≡ true → length text ≤ LONGEST_DEFINITION
definition_short text e = elim (json_of text) as (λ o. is_text_of_some text o ≡ true → length text ≤ LONGEST_DEFINITION) [
  | None ↦ λ h. absurd cc
  | Some d ↦ λ h. text_short text d h
] e
