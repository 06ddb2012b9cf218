-- What a reply depends on of a request of HTTP.
use Rattle.std.specs.Prelude.{◌≡◌, ℕ, List, [], Option, Some, None, codes, option_map}
use Rattle.std.specs.Prelude.{string_bytes}
use Rattle.http.specs.declared.request.Parts.{Parts}
use Rattle.http_header.specs.HeaderMap.{get_all}
use Rattle.http_uri.specs.Uri.{uri_path_and_query}
use Rattle.http_uri.specs.Grammar.{or_slash}
use Rattle.fp_ofrep.specs.Fields.{list_of}
use Rattle.fp_http.specs.declared.asked.Asked.{Asked}

abbrev pub text_of : Option (List ℕ) → List ℕ
text_of None = []
text_of (Some text) = or_slash text

-- the path and the query as one text; a request for no path has none
abbrev pub target_of : Parts → List ℕ
target_of head = text_of (uri_path_and_query head.uri)

-- the method, the target, and the list of all fields `if-none-match`
pub record IsAsked (head : Parts) (asked : Asked) : Type 0 where
  pub method : asked.method ≡ head.method
  pub target : string_bytes asked.target ≡ target_of head
  pub tags : option_map (λ v. v.items) asked.if_none_match
      ≡ list_of (get_all head.headers (codes "if-none-match"))
