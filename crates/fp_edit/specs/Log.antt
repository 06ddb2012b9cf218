-- Logs: the changes of accepted edits, in their order.
use Rattle.std.specs.Prelude.{ℕ, ◌-◌, List, [], ◌∷◌, take, is_none, if◌then◌else◌}
use Rattle.fp_edit.specs.Edits.{Change, Proposal, change_in}
use Rattle.fp_edit.specs.Flags.{State}
use Rattle.fp_edit.specs.Admits.{next, refusal}

abbrev pub after_all : State → List Change → State
after_all s [] = s
after_all s (c ∷ log) = after_all (next s c) log

-- the state at a revision from the start's on: the start counts as the edits up to its own
-- revision, and the log has those behind it
abbrev pub after : State → List Change → ℕ → State
after start log n = after_all start (take (n - start.revision) log)

-- the state after edits that are judged one after another
abbrev pub after_edits : State → List Proposal → State
after_edits s [] = s
after_edits s (p ∷ ps) = after_edits (if is_none (refusal s p) then next s (change_in p) else s) ps

-- the log that these edits make
abbrev pub log_of : State → List Proposal → List Change
log_of s [] = []
log_of s (p ∷ ps) =
    if is_none (refusal s p) then change_in p ∷ log_of (next s (change_in p)) ps else log_of s ps
