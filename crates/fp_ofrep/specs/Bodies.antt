-- The objects of a reply's body, members in ascending order.
use Rattle.std.specs.Prelude.{ℕ, List, codes, Option, Some, None}
use Rattle.serde_json.specs.Data.{Data, string, object, Members, no_members, member}
use Rattle.fp_definition.specs.Resolving.{Said}
use Rattle.fp_definition.specs.declared.resolving.Reason.{Reason}
use Rattle.fp_definition.specs.declared.resolving.Reason.TheVariants.{Static, Default}
use Rattle.fp_definition.specs.declared.resolving.Reason.TheVariants.{TargetingMatch}
use Rattle.fp_ofrep.specs.Failures.{code_of, details_of}
use Rattle.fp_ofrep.specs.declared.failure.Failure.{Failure}

abbrev pub reason_text : Reason → List ℕ
reason_text Static = codes "STATIC"
reason_text Default = codes "DEFAULT"
reason_text TargetingMatch = codes "TARGETING_MATCH"

abbrev pub with_metadata : Option Data → Members → Members
with_metadata None ms = ms
with_metadata (Some d) ms = member (codes "metadata") d ms

-- why, what, and which variant
abbrev pub said_members : Said → Members
said_members said =
    member (codes "reason") (string (reason_text said.2))
    (member (codes "value") said.1 (member (codes "variant") (string said.0) no_members))

-- a flag's value, with the `metadata` that its definition has
abbrev pub success : List ℕ → Option Data → Said → Data
success key metadata said =
    object (member (codes "key") (string key) (with_metadata metadata (said_members said)))

abbrev pub with_key : Option (List ℕ) → Members
with_key None = no_members
with_key (Some key) = member (codes "key") (string key) no_members

abbrev pub failure : Failure → Option (List ℕ) → Data
failure f key =
    object (member (codes "errorCode") (string (code_of f))
    (member (codes "errorDetails") (string (details_of f)) (with_key key)))
