-- What follows from the definitions.
use Rattle.std.specs.Prelude.{◌≡◌, List, ℕ}
use Rattle.fp_edit.specs.Flags.{State}
use Rattle.fp_recovery.specs.Stands.{StandsFor}

-- bytes stand for one set at most
abbrev pub StandsForOne : Type 0
StandsForOne = (c : List ℕ) (s t : State) → StandsFor c s → StandsFor c t → s ≡ t
