-- The reply to a request, as a function: the path, then the method, then the length of the body,
-- then what the body asks of the flags.
use Rattle.std.specs.Prelude.{ℕ, List, length, codes, nat_lt, if◌then◌else◌, bytes_eq}
use Rattle.std.specs.Prelude.{Option, Some, None}
use Rattle.fp_edit.specs.Flags.{State}
use Rattle.fp_ofrep.specs.Bulk.{bulk_reply}
use Rattle.fp_ofrep.specs.Response.{Response, empty, not_allowed}
use Rattle.fp_ofrep.specs.Route.{Route, bulk, single, key, route_of}
use Rattle.fp_ofrep.specs.Single.{reply_with_key, single_reply}
use Rattle.fp_ofrep.specs.Numbers.{LONGEST_BODY}

abbrev pub reply_to_evaluation : State → Route → Option (List ℕ) → List ℕ → ℕ → Response
reply_to_evaluation set bulk if_none_match body now = bulk_reply set if_none_match body now
reply_to_evaluation set (single segment) if_none_match body now = single_reply set segment body now
reply_to_evaluation set (key text) if_none_match body now = reply_with_key set text body now

-- no body stands for one whose reading was given up
abbrev pub reply_to_post : State → Route → Option (List ℕ) → Option (List ℕ) → ℕ → Response
reply_to_post set route if_none_match None now = empty 413
reply_to_post set route if_none_match (Some body) now = if nat_lt LONGEST_BODY (length body)
    then empty 413
    else reply_to_evaluation set route if_none_match body now

abbrev pub reply_to_route : State → Option Route → List ℕ → Option (List ℕ) → Option (List ℕ) → ℕ
    → Response
reply_to_route set None method if_none_match body now = empty 404
reply_to_route set (Some route) method if_none_match body now = if bytes_eq method (codes "POST")
    then reply_to_post set route if_none_match body now else not_allowed

abbrev pub reply : State → List ℕ → List ℕ → Option (List ℕ) → Option (List ℕ) → ℕ → Response
reply set method target if_none_match body now =
    reply_to_route set (route_of target) method if_none_match body now

-- the same for a flag by its key itself, where there is no path and no method
abbrev pub reply_for : State → List ℕ → Option (List ℕ) → ℕ → Response
reply_for set text body now = reply_to_post set (key text) None body now
