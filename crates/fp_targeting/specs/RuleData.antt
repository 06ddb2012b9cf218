-- What a rule is evaluated on.
use Rattle.std.specs.Prelude.{◌≡◌, ℕ, List, pos, codes}
use Rattle.serde_json.specs.Data as json
use Rattle.fp_operators.specs.Data.{Data, whole, text, object, no_members, member, put}
use Rattle.fp_operators.specs.FromJson.{data_of}

-- the flag that is evaluated, and when, in seconds since 1970
abbrev pub flag_data : List ℕ → ℕ → Data
flag_data key now =
    object (member (codes "flagKey") (text key)
    (member (codes "timestamp") (whole (pos now)) no_members))

abbrev pub with_member : List ℕ → Data → Data → Data
with_member name d (object ms) = object (put name d ms)
with_member name d other = other

-- the context with the member `$flagd`
abbrev pub rule_data : json.Data → List ℕ → ℕ → Data
rule_data context key now = with_member (codes "$flagd") (flag_data key now) (data_of context)

-- the data of this context at this moment, for some flag
abbrev pub IsOfContext : json.Data → ℕ → Data → Type 0
IsOfContext context now d = (key : List ℕ) × (d ≡ rule_data context key now)

-- what was made for some flag became what is made for the flag of this key
abbrev pub TurnsTo : List ℕ → Data → Data → Type 0
TurnsTo key old new = (context : json.Data) (now : ℕ)
    → IsOfContext context now old → new ≡ rule_data context key now
