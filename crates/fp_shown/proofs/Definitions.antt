-- Texts of definitions: each is an object whose numbers are whole, and short.
use Rattle.std.proofs.Common.{◌≡◌, ◌≤◌, ℕ, List, ◌∷◌, ◌++◌, length, Bool, true, false, Some, None}
use Rattle.std.proofs.Common.{refl, sym, ap, subst, ◌∙◌, true≢false, leb, cond}
use Rattle.std.specs.Prelude.{bytes_eq, if◌then◌else◌, is_none, is_some, unwrap_or}
use Rattle.std.proofs.lemmas.Bool.{and_parts, false≢true, leb-true}
use Rattle.std.proofs.lemmas.Slice.Eq.{bytes_eq-Decides}
use Rattle.serde_json.specs.Data.{Data, null, boolean, number, string, array, object, Members}
use Rattle.serde_json.specs.Data.{depth}
use Rattle.serde_json.specs.Written.{compact_text}
use Rattle.fp_base.specs.Json.{json_of}
use Rattle.fp_base.specs.Tests.{first_failed}
use Rattle.fp_base.specs.Whole.{is_whole, members_whole}
use Rattle.fp_definition.specs.Valid.{Fault, member_tests, too_deep, whole_numbers_only, too_large}
use Rattle.fp_definition.specs.Valid.{first_fault, is_text_of, is_text_of_some, definition_in}
use Rattle.fp_definition.specs.Valid.{is_definition_text}
use Rattle.fp_definition.specs.Numbers.{DEEPEST_DEFINITION, LONGEST_DEFINITION}
use Rattle.fp_shown.proofs.Scanning.{behind, between_at, behind-object}

first_met : {F : Type 0} (t : Bool × F) (ts : List (Bool × F))
    → is_none (first_failed (t ∷ ts)) ≡ true → (t.0 ≡ true) × (is_none (first_failed ts) ≡ true)
first_met {F = F} t ts e =
    elim t.0 as (λ (b : Bool). is_none (cond b (first_failed ts) (Some t.1)) ≡ true
    → (b ≡ true) × (is_none (first_failed ts) ≡ true)) [
      | true ↦ λ h. (refl, h)
      | false ↦ λ h. absurd (true≢false (sym h))
    ] e

-- an object of whole numbers has this text, which is short
pub record IsObjectText (text : List ℕ) : Type 0 where
  pub members : Members
  pub whole : members_whole members ≡ true
  pub spelled : compact_text (object members) ≡ text
  pub short : length text ≤ LONGEST_DEFINITION

of_object : (text : List ℕ) (d : Data) → is_none (first_failed (member_tests d)) ≡ true
    → is_whole d ≡ true → compact_text d ≡ text → length text ≤ LONGEST_DEFINITION
    → IsObjectText text
of_object text null o w s l = absurd (true≢false (sym o))
of_object text (boolean b) o w s l = absurd (true≢false (sym o))
of_object text (number n) o w s l = absurd (true≢false (sym o))
of_object text (string t) o w s l = absurd (true≢false (sym o))
of_object text (array ds) o w s l = absurd (true≢false (sym o))
of_object text (object ms) o w s l = record { members = ms; whole = w; spelled = s; short = l }

of_data : (text : List ℕ) (d : Data) → is_text_of text d ≡ true → IsObjectText text
unfolding is_text_of
of_data text d e =
    let both = and_parts (is_none (first_fault d)) (bytes_eq (compact_text d) text) e in
    let third : List (Bool × Fault) =
    (leb (length (compact_text d)) LONGEST_DEFINITION, too_large) ∷ member_tests d in
    let second : List (Bool × Fault) = (is_whole d, whole_numbers_only) ∷ third in
    let flat = first_met (leb (depth d) DEEPEST_DEFINITION, too_deep) second both.0 in
    let counted = first_met (is_whole d, whole_numbers_only) third flat.1 in
    let short = first_met (leb (length (compact_text d)) LONGEST_DEFINITION, too_large)
    (member_tests d) counted.1 in
    let same : compact_text d ≡ text = (bytes_eq-Decides (compact_text d) text).0 both.1 in
    of_object text d short.1 counted.0 same
    (subst (λ (t : List ℕ). length t ≤ LONGEST_DEFINITION) same (leb-true _ _ short.0))

pub object_text : (text : List ℕ) → is_definition_text text ≡ true → IsObjectText text
object_text text e =
    elim (json_of text) as (λ o. is_text_of_some text o ≡ true → IsObjectText text) [
      | None ↦ λ h. absurd (true≢false (sym h))
      | Some d ↦ λ h. of_data text d h
    ] e

-- a scan ends right behind one
pub behind-definition : (text rest : List ℕ) → is_definition_text text ≡ true
    → behind (between_at 0) (text ++ rest) ≡ Some rest
behind-definition text rest e =
    let is = object_text text e in
    ap (λ t. behind (between_at 0) (t ++ rest)) (sym is.spelled)
    ∙ behind-object is.members is.whole rest

-- what is found where a definition is looked for
pub definition_found : (text found : List ℕ) → definition_in text ≡ Some found
    → (is_definition_text text ≡ true) × (found ≡ text)
definition_found text found is =
    elim (is_definition_text text) as (λ b. (if b then Some text else None) ≡ Some found
    → (b ≡ true) × (found ≡ text)) [
      | true ↦ λ h. (refl, sym (ap (λ o. unwrap_or o text) h))
      | false ↦ λ h. absurd (false≢true (ap is_some h))
    ] is
