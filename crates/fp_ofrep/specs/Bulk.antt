-- The reply for all flags.
use Rattle.std.specs.Prelude.{ℕ, List, [], ◌∷◌, codes, Option, Some, None, Result, Ok, Err}
use Rattle.std.specs.FinMap as map
use Rattle.serde_json.specs.Data.{Data, object, array, Items, no_items, item, no_members, member}
use Rattle.serde_json.specs.Written.{compact_text}
use Rattle.fp_definition.specs.Resolving.{data_of}
use Rattle.fp_edit.specs.Flags.{Flags, State}
use Rattle.fp_documents.specs.declared.flags.Flag.{Flag}
use Rattle.fp_ofrep.specs.Bodies.{failure}
use Rattle.fp_ofrep.specs.Context.{context_of}
use Rattle.fp_ofrep.specs.Response.{Response, failure_response}
use Rattle.fp_ofrep.specs.Single.{evaluation_of}
use Rattle.fp_ofrep.specs.Tag.{response_with_tag}
use Rattle.fp_ofrep.specs.declared.failure.Failure.{Failure}
use Rattle.fp_ofrep.specs.declared.failure.Failure.TheVariants.{FlagDisabled}

-- a flag before the rest; a disabled one is left out
abbrev pub with_flag_item : List ℕ → Result Data Failure → Items → Items
with_flag_item key (Ok d) rest = item d rest
with_flag_item key (Err FlagDisabled) rest = rest
with_flag_item key (Err f) rest = item (failure f (Some key)) rest

abbrev pub flag_items : List (List ℕ × Flag) → Data → ℕ → Items
flag_items [] context now = no_items
flag_items (e ∷ es) context now =
    with_flag_item e.0 (evaluation_of e.0 (data_of e.1.definition) context now)
    (flag_items es context now)

-- all flags, in ascending order of their keys
abbrev pub bulk_data : Flags → Data → ℕ → Data
bulk_data flags context now =
    object (member (codes "flags") (array (flag_items (map.entries flags) context now)) no_members)

-- a fault of the body is told without a key
abbrev pub bulk_in : State → Option (List ℕ) → Result Data Failure → ℕ → Response
bulk_in set if_none_match (Err f) now = failure_response f None
bulk_in set if_none_match (Ok context) now =
    response_with_tag set.revision if_none_match (compact_text (bulk_data set.flags context now))

abbrev pub bulk_reply : State → Option (List ℕ) → List ℕ → ℕ → Response
bulk_reply set if_none_match body now = bulk_in set if_none_match (context_of body) now
