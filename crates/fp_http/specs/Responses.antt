-- The response of HTTP that a reply is sent as.
use Rattle.std.specs.Prelude.{◌≡◌, ℕ, List, [], Bool, true, false, Option, Some, None, codes}
use Rattle.std.specs.Prelude.{decimal, option_map}
use Rattle.http.specs.declared.response.Parts.{Parts}
use Rattle.http_header.specs.FieldValue.{FieldValue, plain_value}
use Rattle.http_header.specs.HeaderMap.{Entries, insert}
use Rattle.fp_ofrep.specs.Response.{Response}

-- fields with one more, where there is a value for it
abbrev pub and_field : Entries FieldValue → List ℕ → Option (List ℕ) → Entries FieldValue
and_field fields name None = fields
and_field fields name (Some value) = insert fields name (plain_value value)

abbrev pub when : Bool → List ℕ → Option (List ℕ)
when true value = Some value
when false value = None

-- the header fields of a reply, and no other
abbrev pub fields_of : Response → Entries FieldValue
fields_of said =
    and_field (and_field (and_field (and_field []
    (codes "allow") (when said.allow_post (codes "POST")))
    (codes "content-type") (when said.is_json (codes "application/json")))
    (codes "flag-revision") (option_map decimal said.flag_revision))
    (codes "etag") said.etag

pub record IsHeadOf (said : Response) (head : Parts) : Type 0 where
  pub status : head.status ≡ said.status
  pub fields : head.headers ≡ fields_of said
