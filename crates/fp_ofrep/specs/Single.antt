-- The reply for one flag.
use Rattle.std.specs.Prelude.{ℕ, List, codes, if◌then◌else◌, Option, Some, None, Result, Ok, Err}
use Rattle.std.specs.FinMap as map
use Rattle.std.specs.Str.{is_utf8}
use Rattle.std.specs.Str.Lossy.{utf8_lossy}
use Rattle.percent_encoding.specs.Percent.{percent_decode}
use Rattle.serde_json.specs.Data.{Data}
use Rattle.serde_json.specs.Find.{get}
use Rattle.serde_json.specs.Written.{compact_text}
use Rattle.fp_definition.specs.Key.{is_key}
use Rattle.fp_definition.specs.Outcome.{outcome_of}
use Rattle.fp_definition.specs.Resolving.{Said, data_of}
use Rattle.fp_definition.specs.declared.resolving.EvalFault.{EvalFault}
use Rattle.fp_definition.specs.declared.resolving.EvalFault.TheVariants.{Disabled}
use Rattle.fp_edit.specs.Flags.{Flags, State}
use Rattle.fp_documents.specs.declared.flags.Flag.{Flag}
use Rattle.fp_ofrep.specs.Bodies.{success}
use Rattle.fp_ofrep.specs.Context.{context_of}
use Rattle.fp_ofrep.specs.Response.{Response, failure_response, success_response}
use Rattle.fp_ofrep.specs.declared.failure.Failure.{Failure}
use Rattle.fp_ofrep.specs.declared.failure.Failure.TheVariants.{NotFound, FlagDisabled}
use Rattle.fp_ofrep.specs.declared.failure.Failure.TheVariants.{NamesNoVariant}

-- the body's object that tells an outcome, or why there is none
abbrev pub value_or_failure : List ℕ → Data → Result Said EvalFault → Result Data Failure
value_or_failure key d (Ok said) = Ok (success key (get (codes "metadata") d) said)
value_or_failure key d (Err Disabled) = Err FlagDisabled
value_or_failure key d (Err e) = Err NamesNoVariant

-- the evaluation of a definition
abbrev pub evaluation_of : List ℕ → Data → Data → ℕ → Result Data Failure
evaluation_of key d context now = value_or_failure key d (outcome_of d key context now)

abbrev pub evaluation_at : List ℕ → Option Flag → Data → ℕ → Result Data Failure
evaluation_at key None context now = Err NotFound
evaluation_at key (Some f) context now = evaluation_of key (data_of f.definition) context now

-- the body's fault comes first
abbrev pub after_body : List ℕ → Option Flag → Result Data Failure → ℕ → Result Data Failure
after_body key found (Err f) now = Err f
after_body key found (Ok context) now = evaluation_at key found context now

abbrev pub response_of : ℕ → List ℕ → Result Data Failure → Response
response_of revision key (Ok d) = success_response revision None (compact_text d)
response_of revision key (Err f) = failure_response f (Some key)

-- no set has a flag under what is no key
abbrev pub flag_at : Flags → List ℕ → Option Flag
flag_at flags key = if is_key key then map.get flags key else None

abbrev pub reply_with_key : State → List ℕ → List ℕ → ℕ → Response
reply_with_key set key body now =
    response_of set.revision key (after_body key (flag_at set.flags key) (context_of body) now)

-- a key that isn't UTF-8 names no flag, and is shown with U+FFFD
abbrev pub reply_for_invalid_utf8 : State → List ℕ → List ℕ → ℕ → Response
reply_for_invalid_utf8 set shown body now =
    response_of set.revision shown (after_body shown None (context_of body) now)

abbrev pub reply_for_decoded_key : State → List ℕ → List ℕ → ℕ → Response
reply_for_decoded_key set key body now =
    if is_utf8 key then reply_with_key set key body now
    else reply_for_invalid_utf8 set (utf8_lossy key) body now

-- the key is a segment of a path
abbrev pub single_reply : State → List ℕ → List ℕ → ℕ → Response
single_reply set segment body now = reply_for_decoded_key set (percent_decode segment) body now
