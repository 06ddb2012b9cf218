-- What is answered to a request, as a function of the set that is shown.
use Rattle.std.specs.Prelude.{ℕ, List, [], ◌&&◌, Bool, true, false, Option, Some, None}
use Rattle.std.specs.Prelude.{codes, decimal, option_map, is_some, bytes_eq, if◌then◌else◌}
use Rattle.http1.specs.Fields.{Header}
use Rattle.http_server.specs.declared.response.Response.{Response}
use Rattle.http_server.specs.Response.{IsResponse}
use Rattle.fp_edit.specs.Flags.{State}
use Rattle.fp_ofrep.specs.Reply.{reply}
use Rattle.fp_ofrep.specs.Response as ofrep
use Rattle.fp_ofrep.specs.Route.{route_of}
use Rattle.fp_shown.specs.Sets.{IsLawful, IsSetOf}
use Rattle.fp_stream.specs.Frames.{Snapshot}
use Rattle.fp_relay_replies.specs.Asking.{Asked}
use Rattle.fp_relay_replies.specs.CrossOrigin.{Allowed, allowed, and_allowing, and_leave, and_one}
use Rattle.fp_relay_replies.specs.CrossOrigin.{and_varying, are_told_apart}

-- a status, the header fields in order, and a body
pub record Answer : Type 0 where
  pub status : ℕ
  pub fields : List Header
  pub body : List ℕ

-- fields with one more, where there is a value for it
abbrev pub and_field : List Header → List ℕ → Option (List ℕ) → List Header
and_field fields name None = fields
and_field fields name (Some value) = and_one fields name value

abbrev pub when : Bool → List ℕ → Option (List ℕ)
when true value = Some value
when false value = None

-- fields, and those of a reply
abbrev pub and_reply : List Header → Bool → Bool → Option ℕ → Option (List ℕ) → List Header
and_reply fields allow_post is_json flag_revision etag =
    and_field (and_field (and_field (and_field fields
    (codes "allow") (when allow_post (codes "POST")))
    (codes "content-type") (when is_json (codes "application/json")))
    (codes "flag-revision") (option_map decimal flag_revision))
    (codes "etag") etag

-- a reply as it is
abbrev pub told : ofrep.Response → Answer
told said = record {
  status = said.status;
  fields = and_reply [] said.allow_post said.is_json said.flag_revision said.etag;
  body = said.body;
}

-- what a page may ask
abbrev pub leave : Answer
leave = record { status = 204; fields = and_leave []; body = [] }

-- there is nothing to answer from yet
abbrev pub not_yet : Answer
not_yet = record { status = 503; fields = and_one [] (codes "retry-after") (codes "1"); body = [] }

-- a page that is allowed to asks what it may ask at a path of the protocol
abbrev pub asks_leave : Asked → Option Allowed → Bool
asks_leave asked allowance =
    (is_some allowance && bytes_eq asked.method (codes "OPTIONS")) && is_some (route_of asked.target)

-- the reply of the protocol over a set
abbrev pub reply_to : State → Asked → ℕ → ofrep.Response
reply_to set asked now = reply set asked.method asked.target asked.tags (Some asked.body) now

abbrev pub answer_from_set : State → Asked → Option Allowed → ℕ → Answer
answer_from_set set asked allowance now = if asks_leave asked allowance then leave
    else told (reply_to set asked now)

-- before there is a set
abbrev pub answer_without_set : Asked → Option Allowed → Answer
answer_without_set asked allowance = if asks_leave asked allowance then leave else not_yet

-- with the fields that tell a page what is allowed to it, and caches whether that depends on it
abbrev pub and_allowed : Answer → List (List ℕ) → Option Allowed → Answer
and_allowed answer origins allowance = record answer {
  fields = and_varying (and_allowing answer.fields allowance) (are_told_apart origins);
}

abbrev pub answer_from : Option State → List (List ℕ) → Asked → ℕ → Answer
answer_from None origins asked now =
    and_allowed (answer_without_set asked (allowed origins asked.origin)) origins
    (allowed origins asked.origin)
answer_from (Some set) origins asked now =
    and_allowed (answer_from_set set asked (allowed origins asked.origin) now) origins
    (allowed origins asked.origin)

-- a response is this answer
abbrev pub IsSent : Answer → Response → Type 0
IsSent answer response = IsResponse answer.status answer.fields answer.body response

-- a response to a request where this is shown
abbrev pub Responds : Option Snapshot → List (List ℕ) → Asked → ℕ → Response → Type 0
Responds None origins asked now response = IsSent (answer_from None origins asked now) response
Responds (Some snapshot) origins asked now response = (set : State) × IsLawful set
    × IsSetOf snapshot.revision snapshot.document set
    × IsSent (answer_from (Some set) origins asked now) response
