-- What a crash leaves of a disk, in terms of the edits that its store was given.
use Rattle.std.specs.Prelude.{◌≡◌, ◌≤◌, ◌+◌, ℕ, List, length}
use Rattle.fp_edit.specs.Edits.{Change}
use Rattle.fp_edit.specs.Flags.{State}
use Rattle.fp_edit.specs.Log.{after}
use Rattle.fp_recovery.specs.Stands.{StandsFor}
use Rattle.fp_desk.specs.Desk.{DeskState, log}

-- bytes stand for the set after some first edits of the log, up to the n-th revision, n at least `low`
abbrev pub KeptOf : State → List Change → ℕ → List ℕ → Type 0
KeptOf start log low c = (n : ℕ) × (low ≤ n) × (n ≤ start.revision + length log)
    × StandsFor c (after start log n)

-- the same of a desk's log
abbrev pub KeptFrom : DeskState → ℕ → List ℕ → Type 0
KeptFrom d low c = KeptOf d.store.start (log d) low c

-- the set is the one after some first n edits of the desk's log, n at least `low`
abbrev pub IsAfterFirst : DeskState → ℕ → State → Type 0
IsAfterFirst d low set = (n : ℕ) × (low ≤ n) × (n ≤ d.store.start.revision + length (log d))
    × (set ≡ after d.store.start (log d) n)
