-- What clauses see of the code's values.
use Rattle.std.specs.Prelude.{ℕ, List, Option, Some, None, Result, Ok, Err, option_map}
use Rattle.fp_ofrep.specs.Response.{Response}
use Rattle.fp_ofrep.specs.Route as route
use Rattle.fp_ofrep.specs.declared.reply.Reply.{Reply}
use Rattle.fp_ofrep.specs.declared.request.Body.{Body}
use Rattle.fp_ofrep.specs.declared.route.Route.{Route}

abbrev pub result_map : {A B E : Type 0} → (A → B) → Result A E → Result B E
result_map f (Ok a) = Ok (f a)
result_map f (Err e) = Err e

abbrev pub response_seen : Reply → Response
response_seen r = record {
  status = r.status;
  allow_post = r.headers.allow_post;
  is_json = r.headers.is_json;
  flag_revision = r.headers.flag_revision;
  etag = option_map (λ v. v.items) r.headers.etag;
  body = r.body.items;
}

abbrev pub route_seen : Route → route.Route
route_seen Route.Bulk = route.bulk
route_seen (Route.Single segment) = route.single segment.now
route_seen (Route.Key text) = route.key text.now

abbrev pub body_seen : Body → Option (List ℕ)
body_seen (Body.Whole bytes) = Some bytes.now
body_seen Body.TooLong = None
