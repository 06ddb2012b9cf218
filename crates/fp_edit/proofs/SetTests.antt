-- What the tests of a set say.
use Rattle.std.proofs.Common.{◌≡◌, Bool, true, false, List, [], ◌∷◌, length, map, None, refl}
use Rattle.std.specs.Prelude.{nat_le}
use Rattle.fp_base.specs.Tests.{first_failed}
use Rattle.fp_edit.specs.Changes.{are_distinct, is_count, set_fault, set_len}
use Rattle.fp_edit.specs.Parts.{Part, part_key}
use Rattle.fp_edit.specs.declared.changes.SetFault.{SetFault}
use Rattle.fp_edit.specs.declared.changes.SetFault.TheVariants.{BadCount, RepeatedKey, TooLong}
use Rattle.fp_edit.specs.declared.changes.TheConstants.{LONGEST_EDIT}

all_met : (a b c : Bool) (e f g : SetFault) → first_failed ((a, e) ∷ (b, f) ∷ (c, g) ∷ []) ≡ None → (a ≡ true) × (b ≡ true) × (c ≡ true)
all_met true true true e f g h = (refl, refl, refl)
all_met true true false e f g h = absurd cc
all_met true false c e f g h = absurd cc
all_met false b c e f g h = absurd cc

pub set-met : (ps : List Part) → set_fault ps ≡ None → (is_count (length ps) ≡ true) ×
    (are_distinct (map part_key ps) ≡ true) × (nat_le (set_len ps) LONGEST_EDIT ≡ true)
set-met ps lawful = all_met (is_count (length ps)) (are_distinct (map part_key ps))
    (nat_le (set_len ps) LONGEST_EDIT) BadCount RepeatedKey TooLong lawful

pub set-distinct : (ps : List Part) → set_fault ps ≡ None → are_distinct (map part_key ps) ≡ true
set-distinct ps lawful = (set-met ps lawful).1
