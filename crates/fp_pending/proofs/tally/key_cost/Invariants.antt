use Rattle.std.proofs.Common.{◌≡◌, false, map, take}
use Rattle.fp_definition.specs.Key.{key_bytes}
use Rattle.fp_edit.specs.Changes.{is_among}
use Rattle.fp_edit.specs.Lent.{lent_parts}
use Rattle.fp_edit.specs.Parts.{part_key}
use Rattle.fp_pending.proofs.tally.key_cost.Given as goal

-- none of the parts so far is of the key
abbrev pub invariant-loop-i : goal.invariant-loop-i
invariant-loop-i l = is_among (key_bytes l.key) (map part_key (take l.i (lent_parts l.parts))) ≡ false
