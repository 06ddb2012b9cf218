-- What an operator is answered.
use Rattle.std.specs.Prelude.{ℕ, List, [], ◌∷◌, Bool, ◌||◌, codes, bytes_eq, if◌then◌else◌}
use Rattle.fp_relay_replies.specs.Answers.{Answer}
use Rattle.fp_relay_replies.specs.Metrics.{metrics_of}
use Rattle.fp_relay_replies.specs.declared.status.Report.{Report}

-- a status and nothing more
abbrev pub bare : ℕ → Answer
bare status = record { status = status; fields = []; body = [] }

-- whether there is a set to answer from
abbrev pub health_of : Report → Answer
health_of report = if report.has_set then bare 200 else bare 503

-- its numbers
abbrev pub numbers_of : Report → Answer
numbers_of report = record {
  status = 200;
  fields = (codes "content-type", codes "text/plain; version=0.0.4") ∷ [];
  body = metrics_of report;
}

-- a request for what is there; the server leaves out the body of an answer to HEAD
abbrev pub is_read : List ℕ → Bool
is_read method = bytes_eq method (codes "GET") || bytes_eq method (codes "HEAD")

-- no other method is taken
abbrev pub not_read : Answer
not_read = record { status = 405; fields = (codes "allow", codes "GET, HEAD") ∷ []; body = [] }

abbrev pub read_only : List ℕ → Answer → Answer
read_only method answer = if is_read method then answer else not_read

-- by method and path
abbrev pub status_answer : Report → List ℕ → List ℕ → Answer
status_answer report method path =
    if bytes_eq path (codes "/healthz") then read_only method (health_of report)
    else (if bytes_eq path (codes "/metrics") then read_only method (numbers_of report)
    else bare 404)
