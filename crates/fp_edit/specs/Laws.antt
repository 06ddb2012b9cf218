-- What follows from the definitions, for every set and every list of edits.
use Rattle.std.specs.Prelude.{◌≡◌, ℕ, ◌+◌, ◌≤◌, List, length}
use Rattle.fp_edit.specs.Admits.{Outcome, Admits}
use Rattle.fp_edit.specs.Edits.{Change, Proposal}
use Rattle.fp_edit.specs.Flags.{State, size}
use Rattle.fp_edit.specs.Log.{after_all, after, after_edits, log_of}

-- an edit comes to one outcome and no other
abbrev pub HasOneOutcome : Type 0
HasOneOutcome = (s : State) (p : Proposal)
    → (o : Outcome) × (Admits s p o × ((other : Outcome) → Admits s p other → other ≡ o))

-- refused edits leave no trace: a list of edits leads where its log leads
abbrev pub LogTellsAll : Type 0
LogTellsAll = (s : State) (ps : List Proposal) → after_edits s ps ≡ after_all s (log_of s ps)

-- revisions number the accepted edits, and leave no gap
abbrev pub RevisionsCountEdits : Type 0
RevisionsCountEdits =
    (s : State) (log : List Change) → (after_all s log).revision ≡ s.revision + length log

-- each revision from the start's to the last is that of a state on the way
abbrev pub EachRevisionStands : Type 0
EachRevisionStands = (s : State) (log : List Change) (n : ℕ) → s.revision ≤ n
    → n ≤ s.revision + length log → (after s log n).revision ≡ n

-- edits never lead a set past its limit
abbrev pub KeepsItsLimit : Type 0
KeepsItsLimit = (s : State) (ps : List Proposal) → size s.flags ≤ s.limit
    → size (after_edits s ps).flags ≤ (after_edits s ps).limit
