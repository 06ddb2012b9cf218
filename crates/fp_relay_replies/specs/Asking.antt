-- What an answer depends on of a request.
use Rattle.std.specs.Prelude.{ℕ, List, [], Option, Some, None, codes, option_map}
use Rattle.http.specs.declared.request.Parts.{Parts}
use Rattle.http.specs.declared.request.Request.{Request}
use Rattle.http.specs.Request.{head_of, body_of}
use Rattle.http_header.specs.HeaderMap.{get, get_all}
use Rattle.http_uri.specs.Uri.{uri_path_and_query}
use Rattle.http_uri.specs.Grammar.{or_slash}
use Rattle.fp_ofrep.specs.Fields.{list_of}

-- the method, the path and the query as one text, the list of all fields `if-none-match`, the first
-- `origin`, the body
pub record Asked : Type 0 where
  pub method : List ℕ
  pub target : List ℕ
  pub tags : Option (List ℕ)
  pub origin : Option (List ℕ)
  pub body : List ℕ

-- the value of the first field of a name
abbrev pub value_of : Parts → List ℕ → Option (List ℕ)
value_of head name = option_map (λ v. v.bytes) (get head.headers name)

-- those of all fields of a name, as one list
abbrev pub list_in : Parts → List ℕ → Option (List ℕ)
list_in head name = list_of (get_all head.headers name)

-- a request for no path has none
abbrev pub target_text : Option (List ℕ) → List ℕ
target_text None = []
target_text (Some text) = or_slash text

abbrev pub target_in : Parts → List ℕ
target_in head = target_text (uri_path_and_query head.uri)

abbrev pub asked_by : Request (List ℕ) → Asked
asked_by request = record {
  method = (head_of request).method;
  target = target_in (head_of request);
  tags = list_in (head_of request) (codes "if-none-match");
  origin = value_of (head_of request) (codes "origin");
  body = body_of request;
}
