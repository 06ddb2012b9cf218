-- What follows from the definitions, for all sets and all requests.
use Rattle.std.specs.Prelude.{◌≡◌, ℕ, List, codes, Bool, true, false, bytes_eq, Option, Some, None}
use Rattle.std.specs.Prelude.{Result, Ok, Err, if◌then◌else◌}
use Rattle.std.specs.FinMap as map
use Rattle.std.specs.Str.{is_utf8}
use Rattle.percent_encoding.specs.Percent.{percent_decode}
use Rattle.serde_json.specs.Data.{Data, string, Items, no_items, item}
use Rattle.serde_json.specs.Find.{get}
use Rattle.serde_json.specs.Written.{compact_text}
use Rattle.fp_definition.specs.Key.{is_key}
use Rattle.fp_edit.specs.Flags.{State}
use Rattle.fp_ofrep.specs.Bulk.{bulk_data, bulk_reply, flag_items, with_flag_item}
use Rattle.fp_ofrep.specs.Context.{context_of}
use Rattle.fp_ofrep.specs.Reply.{reply, reply_for}
use Rattle.fp_ofrep.specs.Response.{Response}
use Rattle.fp_ofrep.specs.Route.{route_of, single}
use Rattle.fp_ofrep.specs.Single.{evaluation_at, reply_with_key, response_of}
use Rattle.fp_ofrep.specs.Tag.{response_with_tag}
use Rattle.fp_ofrep.specs.declared.failure.Failure.{Failure}
use Rattle.fp_ofrep.specs.declared.failure.Failure.TheVariants.{NotFound}

-- ---- one flag

-- the reply for one flag is the same for all sets of this revision that have this flag
abbrev pub LooksAtOneFlag : Type 0
LooksAtOneFlag = (a b : State) (method target segment : List ℕ)
    (if_none_match body : Option (List ℕ)) (now : ℕ)
    → route_of target ≡ Some (single segment) → a.revision ≡ b.revision
    → map.get a.flags (percent_decode segment) ≡ map.get b.flags (percent_decode segment)
    → reply a method target if_none_match body now ≡ reply b method target if_none_match body now

-- the reply for a key itself is that for each target whose segment decodes to it
abbrev pub KeyOrSegment : Type 0
KeyOrSegment = (set : State) (target segment : List ℕ)
    (if_none_match body : Option (List ℕ)) (now : ℕ)
    → route_of target ≡ Some (single segment) → is_utf8 (percent_decode segment) ≡ true
    → reply set (codes "POST") target if_none_match body now
    ≡ reply_for set (percent_decode segment) body now

-- ---- all flags

-- whether a value is this text
abbrev pub is_text : List ℕ → Option Data → Bool
is_text text (Some (string s)) = bytes_eq text s
is_text text other = false

-- the items whose member `key` is this one
abbrev pub items_of : List ℕ → Items → Items
items_of k no_items = no_items
items_of k (item d rest) =
    if is_text k (get (codes "key") d) then item d (items_of k rest) else items_of k rest

-- what the evaluation of one flag adds to a list: nothing where there is no
-- such flag, or it is disabled
abbrev pub part_of : List ℕ → Result Data Failure → Items
part_of k (Err NotFound) = no_items
part_of k evaluation = with_flag_item k evaluation no_items

-- in one set, in one context: the reply for one flag tells its evaluation, and what the list in the
-- reply for all has of its key is that evaluation
abbrev pub ListHasEachFlag : Type 0
ListHasEachFlag = (set : State) (k : List ℕ) (if_none_match : Option (List ℕ)) (body : List ℕ)
    (context : Data) (now : ℕ)
    → context_of body ≡ Ok context → is_key k ≡ true
    → (reply_with_key set k body now
    ≡ response_of set.revision k (evaluation_at k (map.get set.flags k) context now))
    × (bulk_reply set if_none_match body now
    ≡ response_with_tag set.revision if_none_match (compact_text (bulk_data set.flags context now)))
    × (items_of k (flag_items (map.entries set.flags) context now)
    ≡ part_of k (evaluation_at k (map.get set.flags k) context now))

-- ---- tags

abbrev pub without_revision : Response → Response
without_revision r = record {
  status = r.status;
  allow_post = r.allow_post;
  is_json = r.is_json;
  flag_revision = None;
  etag = r.etag;
  body = r.body;
}

-- sets of the same flags have the same tag and the same body, whatever their revisions
abbrev pub SameFlagsSameTag : Type 0
SameFlagsSameTag = (a b : State) (method target : List ℕ)
    (if_none_match body : Option (List ℕ)) (now : ℕ)
    → a.flags ≡ b.flags → without_revision (reply a method target if_none_match body now)
    ≡ without_revision (reply b method target if_none_match body now)
