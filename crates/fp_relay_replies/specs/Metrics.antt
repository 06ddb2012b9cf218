-- A relay's numbers in Prometheus' text format.
use Rattle.std.specs.Prelude.{ℕ, List, [], ◌++◌, codes, decimal}
use Rattle.fp_relay_replies.specs.declared.status.Answered.{Answered}
use Rattle.fp_relay_replies.specs.declared.status.Report.{Report}

-- a text, and a line of a number's meaning and one of its kind
abbrev pub and_head : List ℕ → List ℕ → List ℕ → List ℕ → List ℕ
and_head text name kind help = ((((((((text ++ codes "# HELP ") ++ name) ++ codes " ") ++ help)
    ++ codes "\n# TYPE ") ++ name) ++ codes " ") ++ kind) ++ codes "\n"

-- a text, and a value behind a space
abbrev pub and_value : List ℕ → ℕ → List ℕ
and_value text value = ((text ++ codes " ") ++ decimal value) ++ codes "\n"

-- a text, and a number that may fall; and one that only grows
abbrev pub and_gauge : List ℕ → List ℕ → List ℕ → ℕ → List ℕ
and_gauge text name help value = and_value (and_head text name (codes "gauge") help ++ name) value

abbrev pub and_counter : List ℕ → List ℕ → List ℕ → ℕ → List ℕ
and_counter text name help value =
    and_value (and_head text name (codes "counter") help ++ name) value

-- a text, and how many requests were answered with a status
abbrev pub and_status : List ℕ → List ℕ → ℕ → List ℕ
and_status text status value =
    and_value (((text ++ codes "flagrelay_requests_total{status=\"") ++ status) ++ codes "\"}") value

-- what is shown, and since when
abbrev pub and_shown : List ℕ → Report → List ℕ
and_shown text r = and_gauge (and_gauge (and_gauge (and_gauge (and_gauge text
    (codes "flagrelay_revision") (codes "The revision of the set that is shown.") r.revision)
    (codes "flagrelay_flags") (codes "The flags of that set.") r.flags)
    (codes "flagrelay_seconds_since_frame")
    (codes "Seconds since a set was last taken, or since the start.") r.since_frame)
    (codes "flagrelay_seconds_since_source")
    (codes "Seconds since a connection to the source stood, or since the start.")
    r.since_source)
    (codes "flagrelay_source_revision")
    (codes "The revision that the source showed last.") r.source_revision

-- who came
abbrev pub and_connections : List ℕ → Report → List ℕ
and_connections text r = and_counter (and_counter (and_gauge text
    (codes "flagrelay_connections") (codes "Connections that are open.") r.connections)
    (codes "flagrelay_connections_total") (codes "Connections that were let in.")
    r.connections_total)
    (codes "flagrelay_refused_total")
    (codes "Connections for which there was no place or no descriptor.")
    r.refused_total

-- what was replied
abbrev pub and_replies : List ℕ → Answered → List ℕ
and_replies text a = and_status (and_status (and_status (and_status (and_status (and_status text
    (codes "200") a.ok) (codes "204") a.no_content) (codes "304") a.not_modified)
    (codes "400") a.bad_request) (codes "404") a.not_found) (codes "405") a.not_allowed

-- what was refused before it was whole, or before there was a set
abbrev pub and_refusals : List ℕ → Answered → List ℕ
and_refusals text a = and_status (and_status (and_status (and_status (and_status text
    (codes "413") a.too_long) (codes "414") a.target_too_long) (codes "431") a.head_too_long)
    (codes "501") a.not_implemented) (codes "503") a.unavailable

-- what was answered
abbrev pub and_requests : List ℕ → Answered → List ℕ
and_requests text a = and_refusals (and_replies
    (and_head text (codes "flagrelay_requests_total") (codes "counter")
    (codes "Requests that were answered, by status.")) a) a

-- what was evaluated and taken
abbrev pub and_work : List ℕ → Report → List ℕ
and_work text r = and_counter (and_counter (and_counter text
    (codes "flagrelay_evaluations_total") (codes "Requests that were evaluated.") r.evaluations)
    (codes "flagrelay_frames_total") (codes "Sets that were taken from the source.") r.frames)
    (codes "flagrelay_frame_bytes_total") (codes "Bytes of their frames.") r.frame_bytes

abbrev pub metrics_of : Report → List ℕ
metrics_of r = and_work (and_requests (and_connections (and_shown [] r) r) r.requests) r
