-- The tag of a body, and whether a client has it.
use Rattle.std.specs.Prelude.{ℕ, List, [], ◌∷◌, ◌++◌, codes, Bool, true, false, ◌==◌, ◌||◌}
use Rattle.std.specs.Prelude.{if◌then◌else◌, bytes_eq, Option, Some, None}
use Rattle.sha2.specs.Sha256.{sha256}
use Rattle.hex.specs.Hex.{encode_lower}
use Rattle.fp_ofrep.specs.Response.{Response, not_modified, success_response}
use Rattle.fp_ofrep.specs.Route.{behind}

-- the digest in lower-case hexadecimal, in quotes
abbrev pub tag_of : List ℕ → List ℕ
tag_of body = 34 ∷ (encode_lower (sha256 body) ++ 34 ∷ [])

-- spaces and tabs
abbrev pub is_blank : ℕ → Bool
is_blank b = (b == 32) || (b == 9)

abbrev pub without_blanks : List ℕ → List ℕ
without_blanks [] = []
without_blanks (b ∷ bs) = if is_blank b then without_blanks bs else b ∷ bs

abbrev pub nothing_left : List ℕ → Bool
nothing_left [] = true
nothing_left (b ∷ bs) = false

abbrev pub only_blanks : Option (List ℕ) → Bool
only_blanks None = false
only_blanks (Some text) = nothing_left (without_blanks text)

-- without a leading `W/`
abbrev pub or_else : List ℕ → Option (List ℕ) → List ℕ
or_else text None = text
or_else text (Some rest) = rest

abbrev pub strong : List ℕ → List ℕ
strong text = or_else text (behind (codes "W/") text)

-- a part of a comma list is the tag, but for blanks around and `W/` before it
abbrev pub is_tag : List ℕ → List ℕ → Bool
is_tag tag part = only_blanks (behind tag (strong (without_blanks part)))

-- some part between commas is the tag; `part` stands before the text, back to the last comma
abbrev pub has_tag : List ℕ → List ℕ → List ℕ → Bool
has_tag tag part [] = is_tag tag part
has_tag tag part (b ∷ bs) = if b == 44 then (is_tag tag part || has_tag tag [] bs)
    else has_tag tag (part ++ b ∷ []) bs

-- `If-None-Match`
abbrev pub is_known : List ℕ → Option (List ℕ) → Bool
is_known tag None = false
is_known tag (Some field) = bytes_eq field (codes "*") || has_tag tag [] field

abbrev pub response_with_tag : ℕ → Option (List ℕ) → List ℕ → Response
response_with_tag revision if_none_match body = if is_known (tag_of body) if_none_match
    then not_modified revision (tag_of body)
    else success_response revision (Some (tag_of body)) body
