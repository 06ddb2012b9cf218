-- A response, and the kinds of responses.
use Rattle.std.specs.Prelude.{ℕ, List, [], Bool, true, false, Option, Some, None}
use Rattle.serde_json.specs.Written.{compact_text}
use Rattle.fp_ofrep.specs.Bodies.{failure}
use Rattle.fp_ofrep.specs.Failures.{status_of}
use Rattle.fp_ofrep.specs.declared.failure.Failure.{Failure}

-- the status, the headers `allow: POST`, `content-type: application/json`, `flag-revision` in
-- decimal and `etag`, and the body
pub record Response : Type 0 where
  pub status : ℕ
  pub allow_post : Bool
  pub is_json : Bool
  pub flag_revision : Option ℕ
  pub etag : Option (List ℕ)
  pub body : List ℕ

-- no body
abbrev pub empty : ℕ → Response
empty status = record {
  status = status;
  allow_post = false;
  is_json = false;
  flag_revision = None;
  etag = None;
  body = [];
}

-- 405, and the one method that there is
abbrev pub not_allowed : Response
not_allowed = record {
  status = 405;
  allow_post = true;
  is_json = false;
  flag_revision = None;
  etag = None;
  body = [];
}

abbrev pub failure_response : Failure → Option (List ℕ) → Response
failure_response f key = record {
  status = status_of f;
  allow_post = false;
  is_json = true;
  flag_revision = None;
  etag = None;
  body = compact_text (failure f key);
}

abbrev pub success_response : ℕ → Option (List ℕ) → List ℕ → Response
success_response revision etag body = record {
  status = 200;
  allow_post = false;
  is_json = true;
  flag_revision = Some revision;
  etag = etag;
  body = body;
}

-- the client has the body of this tag
abbrev pub not_modified : ℕ → List ℕ → Response
not_modified revision tag = record {
  status = 304;
  allow_post = false;
  is_json = false;
  flag_revision = Some revision;
  etag = Some tag;
  body = [];
}
