-- What a later set's document may be made of.
use Rattle.std.specs.Prelude.{◌≡◌, ℕ, ◌-◌, ◌≤◌, Bool, true, List}
use Rattle.std.specs.FinMap as map
use Rattle.fp_documents.specs.Outline.{changed_after}
use Rattle.fp_edit.specs.Edits.{Change}
use Rattle.fp_edit.specs.Flags.{Flags, State}
use Rattle.fp_edit.specs.Log.{after_all}

-- one flag at most was changed by the edit that made a revision, where that is said
abbrev pub MarksOne : Bool → ℕ → Flags → Type 0
MarksOne said revision flags = said ≡ true → changed_after (revision - 1) (map.entries flags) ≤ 1

-- edits lead from one set to another
abbrev pub LeadsTo : State → State → Type 0
LeadsTo s t = (log : List Change) × (t ≡ after_all s log)
