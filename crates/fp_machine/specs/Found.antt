-- The results that are at hand and kept.
use Rattle.std.specs.Prelude.{List, [], map}
use Rattle.fp_operators.specs.Data.{Data}
use Rattle.fp_operators.specs.View.{view}
use Rattle.fp_machine.specs.Kept.{kept_items}
use Rattle.fp_machine.specs.Stack.{onto}
use Rattle.fp_machine.specs.declared.kept.Kept.{Kept}
use Rattle.fp_machine.specs.declared.machine.Found.{Found}
use Rattle.fp_machine.specs.declared.machine.Found.TheVariants.{Lent, Made}

abbrev pub found_view : Found → Data
found_view (Lent d) = view d.now
found_view (Made d) = view d

-- the last one first
abbrev pub founds_view : List Found → List Data
founds_view founds = onto (map found_view founds) []

abbrev pub stack_view : Kept → List Data
stack_view kept = founds_view (kept_items kept)
