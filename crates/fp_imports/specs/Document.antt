-- The flags that a flagd document defines.
use Rattle.std.specs.Prelude.{ℕ, List, [], ◌∷◌, codes, Option, Some, None, option_and_then, Result}
use Rattle.std.specs.Prelude.{Ok, Err, if◌then◌else◌}
use Rattle.serde_json.specs.Data.{Data, object, Members, no_members, member, put}
use Rattle.serde_json.specs.Find.{get, get_member, as_object}
use Rattle.serde_json.specs.Written.{compact_text}
use Rattle.fp_definition.specs.Key.{is_key}
use Rattle.fp_definition.specs.Valid as definition
use Rattle.fp_definition.specs.Valid.{Fault, first_fault}
use Rattle.fp_imports.specs.References.{Walked, Broken, unknown, too_deep}
use Rattle.fp_imports.specs.References.{too_large, whole_expansion}

-- why a document isn't taken
pub data Refusal : Type 0 where
  not_document : Refusal
  unknown_evaluator : List ℕ → Refusal
  nested_too_deep : Refusal
  bad_flag : List ℕ → Fault → Refusal
  bad_key : List ℕ → Refusal

-- a flag, by its key and its definition's canonical text
abbrev pub Flag : Type 0
Flag = List ℕ × List ℕ

-- ---- one flag

abbrev pub walk_made : Walked Data → Result (Option Data) Broken
walk_made (Ok p) = Ok (Some p.0)
walk_made (Err e) = Err e

-- a targeting with its references replaced, where there is one
abbrev pub targeting_expansion : Members → Option Data → Result (Option Data) Broken
targeting_expansion evaluators None = Ok None
targeting_expansion evaluators (Some t) = walk_made (whole_expansion evaluators t)

abbrev pub with_targeting : Members → Result (Option Data) Broken → Result Data Broken
with_targeting ms (Ok None) = Ok (object ms)
with_targeting ms (Ok (Some t)) = Ok (object (put (codes "targeting") t ms))
with_targeting ms (Err e) = Err e

-- a flag's data with the references in its targeting replaced. Nothing else in it changes
abbrev pub flag_expansion : Members → Data → Result Data Broken
flag_expansion evaluators (object ms) =
    with_targeting ms (targeting_expansion evaluators (get_member (codes "targeting") ms))
flag_expansion evaluators d = Ok d

abbrev pub flag_broken : List ℕ → Broken → Refusal
flag_broken k (unknown name) = unknown_evaluator name
flag_broken k too_deep = nested_too_deep
flag_broken k too_large = bad_flag k definition.too_large

abbrev pub flag_unless : Option Fault → List ℕ → Data → Result Flag Refusal
flag_unless None k d = Ok (k, compact_text d)
flag_unless (Some f) k d = Err (bad_flag k f)

abbrev pub flag_if_valid : List ℕ → Data → Result Flag Refusal
flag_if_valid k d = flag_unless (first_fault d) k d

abbrev pub flag_of_data : List ℕ → Result Data Broken → Result Flag Refusal
flag_of_data k (Ok d) = flag_if_valid k d
flag_of_data k (Err e) = Err (flag_broken k e)

-- the flag of that name: its key is looked at first, then its references, then its definition
abbrev pub flag_of : Members → List ℕ → Data → Result Flag Refusal
flag_of evaluators k d =
    if is_key k then flag_of_data k (flag_expansion evaluators d) else Err (bad_key k)

-- ---- all flags

abbrev pub before : Flag → Result (List Flag) Refusal → Result (List Flag) Refusal
before f (Ok fs) = Ok (f ∷ fs)
before f (Err e) = Err e

abbrev pub and_others : Result Flag Refusal → Result (List Flag) Refusal
    → Result (List Flag) Refusal
and_others (Ok f) others = before f others
and_others (Err e) others = Err e

-- one flag a member, or the fault of the first that has one
abbrev pub flags_of : Members → Members → Result (List Flag) Refusal
flags_of evaluators no_members = Ok []
flags_of evaluators (member k d ms) = and_others (flag_of evaluators k d) (flags_of evaluators ms)

-- ---- the document

-- the evaluators, where `$evaluators` is absent or an object
abbrev pub evaluators_in : Option Data → Option Members
evaluators_in None = Some no_members
evaluators_in (Some d) = as_object d

-- the flags, where `flags` is an object
abbrev pub flags_in : Option Data → Option Members
flags_in found = option_and_then as_object found

abbrev pub flags_of_parts : Option Members → Option Members → Result (List Flag) Refusal
flags_of_parts (Some evaluators) (Some flags) = flags_of evaluators flags
flags_of_parts evaluators flags = Err not_document

-- the flags of a document, or its first fault. Data that are no object have no members
abbrev pub document : Data → Result (List Flag) Refusal
document d =
    flags_of_parts (evaluators_in (get (codes "$evaluators") d)) (flags_in (get (codes "flags") d))
