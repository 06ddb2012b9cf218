-- Data that turn to another flag.
use Rattle.std.proofs.Common.{◌≡◌, ℕ, List, Bool, true, false, Some, None, codes, pos, refl, ap, ◌∙◌}
use mathlib.Core.Bool.{true≢false}
use Rattle.serde_json.specs.Data as json
use Rattle.serde_json.specs.Find.{as_i64}
use Rattle.fp_operators.specs.Data.{Data, null, boolean, whole, text, list, object, Members, no_members, member, put}
use Rattle.fp_operators.specs.FromJson.{data_of, members_from, whole_or_null}
use Rattle.fp_targeting.specs.RuleData.{flag_data, rule_data, with_member}

abbrev is_object : Data → Bool
is_object (object ms) = true
is_object null = false
is_object (boolean b) = false
is_object (whole z) = false
is_object (text s) = false
is_object (list ds) = false

abbrev pub members_in : Data → Members
members_in (object ms) = ms
members_in d = no_members

-- whatever was put under the flag's key is what is put there now
abbrev Sets : List ℕ → Members → Members → Type 0
Sets key old new = (k : List ℕ) (of_flag ms : Members) → old ≡ put (codes "$flagd") (object (put (codes "flagKey") (text k) of_flag)) ms
    → new ≡ put (codes "$flagd") (object (put (codes "flagKey") (text key) of_flag)) ms

module _ (k key : List ℕ) (now : ℕ) (old new : Members) where
  no_object : (d : Data) → is_object d ≡ false → object old ≡ d → object new ≡ d
  no_object d none h = absurd (true≢false (ap is_object h ∙ none))

  pub turned : (context : json.Data) → Sets key old new → object old ≡ rule_data context k now → object new ≡ rule_data context key now
  turned json.null sets h = no_object null refl h
  turned (json.boolean b) sets h = no_object (boolean b) refl h
  turned (json.number n) sets h =
      elim (as_i64 n) as (λ z. object old ≡ with_member (codes "$flagd") (flag_data k now) (whole_or_null z) →
      object new ≡ with_member (codes "$flagd") (flag_data key now) (whole_or_null z)) [
        | None ↦ no_object null refl
        | Some z ↦ no_object (whole z) refl
      ] h
  turned (json.string s) sets h = no_object (text s) refl h
  turned (json.array ds) sets h = no_object (data_of (json.array ds)) refl h
  turned (json.object js) sets h =
      ap object (sets k (member (codes "timestamp") (whole (pos now)) no_members) (members_from js) (ap members_in h))
