-- The results that wait for others.
use Rattle.std.specs.Prelude.{ℕ, List, vec_capacity}
use Rattle.fp_machine.specs.declared.kept.Kept.{Kept}
use Rattle.fp_machine.specs.declared.kept.Kept.TheVariants.{Few, Many}
use Rattle.fp_machine.specs.declared.kept.TheConstants.{MOST}
use Rattle.fp_machine.specs.declared.machine.Found.{Found}

-- the last one behind
abbrev pub kept_items : Kept → List Found
kept_items (Few few) = few.items
kept_items (Many many) = many.items

-- so many have their places
abbrev pub kept_room : Kept → ℕ
kept_room (Few few) = MOST
kept_room (Many many) = vec_capacity many
