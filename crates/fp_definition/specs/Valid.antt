-- Which JSON data are a flag's definition.
use Rattle.std.specs.Prelude.{◌≡◌, ℕ, List, [], ◌∷◌, length, codes, Bool, true, false, ◌&&◌, ◌||◌}
use Rattle.std.specs.Prelude.{nat_le, if◌then◌else◌, Option, Some, None, is_some, is_none, bytes_eq}
use Rattle.std.specs.Prelude.{Result, Ok, Err}
use Rattle.serde_json.specs.Data.{Data, null, string, object, Members, depth}
use Rattle.serde_json.specs.Find.{get, as_object}
use Rattle.serde_json.specs.Events.{members_len}
use Rattle.serde_json.specs.Written.{compact_text}
use Rattle.fp_base.specs.Json.{json_of}
use Rattle.fp_base.specs.Tests.{first_failed}
use Rattle.fp_base.specs.Whole.{is_whole}
use Rattle.fp_targeting.specs.Compile as rules
use Rattle.fp_targeting.specs.Compile.{verdict}
use Rattle.fp_machine.specs.Rule.{Rule}
use Rattle.fp_definition.specs.Kinds.{one_kind, all_scalars}
use Rattle.fp_definition.specs.Numbers.{DEEPEST_DEFINITION}
use Rattle.fp_definition.specs.Numbers.{LONGEST_DEFINITION}
use Rattle.fp_definition.specs.Numbers.{MOST_VARIANTS, MOST_METADATA}

-- what is wrong with data that are no definition
pub data Fault : Type 0 where
  too_deep : Fault
  whole_numbers_only : Fault
  too_large : Fault
  not_object : Fault
  bad_state : Fault
  bad_variants : Fault
  bad_default : Fault
  bad_metadata : Fault
  unsupported_operator : List ℕ → Fault
  bad_rule : Fault

-- `state`: absent, or one of two texts
abbrev pub is_state : Option Data → Bool
is_state None = true
is_state (Some (string s)) = bytes_eq s (codes "ENABLED") || bytes_eq s (codes "DISABLED")
is_state (Some d) = false

abbrev pub is_between : ℕ → ℕ → ℕ → Bool
is_between least most n = nat_le least n && nat_le n most

unfoldable pub variant_members : Members → Bool
variant_members ms = is_between 1 MOST_VARIANTS (members_len ms) && one_kind ms

-- `variants`: an object of some members, all booleans, all texts, all numbers or all objects
abbrev pub are_variants : Option Data → Bool
are_variants (Some (object ms)) = variant_members ms
are_variants d = false

-- `defaultVariant`: a text that names a variant
abbrev pub names_variant : Option Data → Option Data → Bool
names_variant (Some (string s)) (Some variants) = is_some (get s variants)
names_variant d variants = false

unfoldable pub metadata_members : Members → Bool
metadata_members ms = is_between 0 MOST_METADATA (members_len ms) && all_scalars ms

-- `metadata`: absent, or an object of few booleans, texts and numbers
abbrev pub is_metadata : Option Data → Bool
is_metadata None = true
is_metadata (Some (object ms)) = metadata_members ms
is_metadata (Some d) = false

-- a verdict on a rule as a test, where the rule isn't accepted
abbrev pub verdict_tests : Result Rule rules.Fault → List (Bool × Fault)
verdict_tests (Err rules.too_deep) = (false, too_deep) ∷ []
verdict_tests (Err (rules.unsupported name)) = (false, unsupported_operator name) ∷ []
verdict_tests (Err rules.bad) = (false, bad_rule) ∷ []
verdict_tests (Ok r) = []

-- `targeting`: absent, null, or an object that is a rule
unfoldable pub targeting_tests : Option Data → List (Bool × Fault)
targeting_tests None = []
targeting_tests (Some null) = []
targeting_tests (Some (object ms)) = verdict_tests (verdict (object ms))
targeting_tests (Some d) = (false, bad_rule) ∷ []

-- the tests from the object on, but for that of `targeting`, before others
abbrev pub choice_tests : Data → List (Bool × Fault) → List (Bool × Fault)
choice_tests d others =
    (is_some (as_object d), not_object)
    ∷ (is_state (get (codes "state") d), bad_state)
    ∷ (are_variants (get (codes "variants") d), bad_variants)
    ∷ (names_variant (get (codes "defaultVariant") d) (get (codes "variants") d), bad_default)
    ∷ (is_metadata (get (codes "metadata") d), bad_metadata)
    ∷ others

-- the tests from the object on
abbrev pub member_tests : Data → List (Bool × Fault)
member_tests d = choice_tests d (targeting_tests (get (codes "targeting") d))

-- what a definition has to meet, in the order of the tests, each with the fault where it isn't met
abbrev pub tests : Data → List (Bool × Fault)
tests d =
    (nat_le (depth d) DEEPEST_DEFINITION, too_deep)
    ∷ (is_whole d, whole_numbers_only)
    ∷ (nat_le (length (compact_text d)) LONGEST_DEFINITION, too_large)
    ∷ member_tests d

-- the fault of the first test that the data don't meet
abbrev pub first_fault : Data → Option Fault
first_fault d = first_failed (tests d)

-- data are a definition where they meet each test
abbrev pub IsValid : Data → Type 0
IsValid d = first_fault d ≡ None

-- ---- from bytes

-- the bytes are the canonical text of the data, and these are a definition
unfoldable pub is_text_of : List ℕ → Data → Bool
is_text_of text d = is_none (first_fault d) && bytes_eq (compact_text d) text

abbrev pub is_text_of_some : List ℕ → Option Data → Bool
is_text_of_some text None = false
is_text_of_some text (Some d) = is_text_of text d

-- the bytes are the canonical text of a definition
abbrev pub is_definition_text : List ℕ → Bool
is_definition_text text = is_text_of_some text (json_of text)

-- the definition whose canonical text the bytes are, seen as this text
abbrev pub definition_in : List ℕ → Option (List ℕ)
definition_in text = if is_definition_text text then Some text else None
